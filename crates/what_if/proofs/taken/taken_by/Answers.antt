use Rattle.std.proofs.Common.{ℕ, List, filter, not, ap, ◌∙◌}
use Rattle.std.specs.List.{flat_map}
use Rattle.what_if.specs.Baselines.{held_by, stands_outside}
use Rattle.what_if.specs.declared.site.Wanted.{Wanted}
use Rattle.what_if.proofs.Taking.{are_taken}
use Rattle.what_if.proofs.taken.taken_by.Goals as goal

pub returns : goal.returns
returns c =
    let base = c.args.base.now in
    let gone = c.in_ok-gone.gone in
    are_taken base c.requires c.args.lost.now gone c.in_ok-gone.ensures c.in_ok-taken.taken.items
    (c.in_ok-taken.ensures
    ∙ ap (flat_map (λ (cell : List ℕ). filter (λ (w : Wanted). not (stands_outside base gone w)) (held_by base cell)))
    (c.deref.ensures.value ∙ c.in_ok-cells.ensures))
