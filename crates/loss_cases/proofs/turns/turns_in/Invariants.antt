use Rattle.std.proofs.Common.{◌≡◌, map, take}
use Rattle.loss_cases.specs.Cells.{with_tag}
use Rattle.loss_cases.specs.Turns.{turn_of}
use Rattle.loss_cases.proofs.turns.turns_in.Given as goal

abbrev pub invariant-loop-tag : goal.invariant-loop-tag
invariant-loop-tag l =
    l.turns ≡ map (λ tag. turn_of l.base.site.now tag (with_tag tag l.cells)) (take l.tag-index l.tag-items)
