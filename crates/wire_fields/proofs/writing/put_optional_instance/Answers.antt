use Rattle.std.proofs.Common.{Option, sym, subst, arith}
use Rattle.diego_names.specs.declared.instance.Instance.{Instance}
use Rattle.wire_fields.specs.Field.{field_truth, field_optional_instance, PutsText}
use Rattle.wire_fields.proofs.Places.{Puts-then}
use Rattle.wire_fields.proofs.writing.put_optional_instance.Goals as goal

pub returns-in-Some : goal.returns-in-Some
unfolding field_truth field_optional_instance
returns-in-Some c =
    subst (λ (o : Option Instance). PutsText c.args.out.now c.args.at
    (field_optional_instance o) c.put_instance.new.out c.put_instance.result)
    (sym c.in-Some.is) (Puts-then (omega arith) c.put_truth-at.ensures c.put_instance.ensures)
