use Rattle.std.proofs.Common.{◌≡◌, ℕ, ◌<◌, Some, ◌++◌, length, get_or, sym, ap, ◌∙◌, arith}
use Rattle.std.specs.List.{slice_get}
use Rattle.std.proofs.lemmas.List.Elements.{All-get_or}
use Rattle.std.proofs.lemmas.Option.{slice_get-get_or}
use Rattle.dump_lines.specs.declared.cell_state.CellState.{CellState}
use Rattle.what_if.proofs.InOrder.{there_next}
use Rattle.what_if.proofs.wanting.instances_at.Goals as goal

pub loop-at-preserved : goal.loop-at-preserved
loop-at-preserved c =
    let dump = c.args.marked.now.dump.now in
    let places = c.args.places.now in
    let n = c.loop-at.at-index in
    let lt : n < length places = omega arith in
    let at : ℕ = get_or places n 0 in
    let s : CellState = c.index-states-at.result in
    let read : s ≡ get_or dump.states at s = c.index-states-at.is ∙ ap (λ xs. get_or xs at s) c.items-states.ensures in
    let is : slice_get dump.states at ≡ Some s = slice_get-get_or dump.states at s
    (All-get_or (λ k. k < length dump.states) places n 0 lt c.requires.inside) ∙ ap Some (sym read) in
    c.in_ok-append.ensures.items
    ∙ (λ i. c.loop-at.invariant i ++ c.in_ok-more.ensures i)
    ∙ sym (there_next dump places n s lt is)
