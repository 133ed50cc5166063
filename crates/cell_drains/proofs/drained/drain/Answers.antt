use Rattle.std.proofs.Common.{ℕ, ap, sym, length, ◌∙◌, arith}
use Rattle.cell_drains.specs.Batches.{batches}
use Rattle.cell_drains.specs.Drained.{drained_by}
use Rattle.cell_drains.proofs.Whole.{by_course, in_all}
use Rattle.cell_drains.proofs.drained.drain.Goals as goal

pub returns : goal.returns
returns c =
    let course = c.in_ok-course.course in
    let start = c.in_ok-start.start in
    let order = c.in_ok-order.order.items in
    let cut = c.as_slice-2.result.now in
    c.in_ok-drained.ensures
    ∙ ap (λ (n : ℕ). drained_by c.in_ok-first.first n c.args.at_a_time course.site course.steps course.moved.items)
    (omega (arith, c.as_slice.ensures.len, ap length c.as_slice.ensures.value))
    ∙ by_course c.in_ok-first.first start (length order) c.args.at_a_time cut course c.in_ok-course.ensures
    (c.in_ok-first.ensures.value ∙ sym c.in_ok-start.ensures.value)
    ∙ in_all c.args.site.now start c.args.cells.now c.args.at_a_time order cut c.in_ok-start.ensures.value
    c.in_ok-order.ensures
    (c.as_slice-2.ensures.value ∙ c.in_ok-cut.ensures ∙ ap (batches c.args.at_a_time) c.as_slice.ensures.value)
