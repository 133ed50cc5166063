use Rattle.std.proofs.Common.{ℕ, List, ◌∷◌, length, subst, arith}
use Rattle.wire_fields.specs.Field.{field_name, PutsText}
use Rattle.wire_fields.proofs.Places.{Puts-then}
use Rattle.wire_fields.proofs.writing.put_name.Goals as goal

pub returns : goal.returns
unfolding field_name
returns c =
    subst (λ (name : List ℕ). PutsText c.args.out.now c.args.at
    (length name ∷ name) c.put_bytes.new.out c.put_bytes.result)
    c.bytes-bytes.ensures.value (Puts-then (omega arith) c.put_bytes-at.ensures c.put_bytes.ensures)
