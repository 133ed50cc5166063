use Rattle.std.proofs.Common.{ap, ◌∙◌}
use Rattle.what_if.specs.Marks.{order_of, there_at}
use Rattle.what_if.proofs.InOrder.{there_in_order}
use Rattle.what_if.proofs.wanting.instances_of_cells.Goals as goal

pub returns : goal.returns
returns c =
    let dump = c.args.marked.now.dump.now in
    c.in_ok-list.ensures
    ∙ ap (there_at dump) (c.deref.ensures.value ∙ c.in_ok-places.ensures.order ∙ ap order_of c.items.ensures)
    ∙ there_in_order dump
