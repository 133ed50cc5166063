use Rattle.std.proofs.Common.{ap, ◌∙◌}
use Rattle.std.specs.List.{list_any}
use Rattle.site_spread.specs.Spots.{same_group}
use Rattle.site_spread.specs.declared.group.Group.{Group}
use Rattle.site_spread.proofs.Looking.{has_cell-groups}
use Rattle.what_if.specs.Stays.{open_cells}
use Rattle.site_spread.proofs.spread.groups_left.Goals as goal

pub returns : goal.returns
returns c = λ zone tag.
    let g : Group = record { zone = zone; tag = tag } in
    c.in_ok-groups.ensures g
    ∙ ap (list_any (λ (k : Group). same_group k g)) (c.deref.ensures.value ∙ c.in_ok-list.ensures)
    ∙ has_cell-groups (open_cells c.args.site.now c.args.lost.now) zone tag
