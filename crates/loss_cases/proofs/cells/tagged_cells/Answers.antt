use Rattle.std.proofs.Common.{◌∙◌, ap, map, sym, subst}
use Rattle.loss_cases.specs.Cells.{tagged}
use Rattle.loss_cases.proofs.Orders.{NamesDiffer, names_differ}
use Rattle.loss_cases.proofs.cells.tagged_cells.Goals as goal

pub returns-clause-differ : goal.returns-clause-differ
returns-clause-differ c =
    subst NamesDiffer (sym (c.in_ok-cells.ensures ∙ ap (map tagged) c.items.ensures))
    (names_differ c.args.site.now.cells c.requires.cells.differ)
