use Rattle.std.proofs.Common.{List, ◌++◌, ℕ, ap, ◌∙◌}
use Rattle.bbs_codec.proofs.Public.{Puts-front}
use Rattle.head_codec.proofs.writing.append.Goals as goal

pub returns-clause-bytes : goal.returns-clause-bytes
returns-clause-bytes g c =
    c.in_ok-extend_from_slice.ensures.items
    ∙ ap (λ (l : List ℕ). c.args.out.now.items ++ l) (Puts-front c.put_at-len.ensures)
