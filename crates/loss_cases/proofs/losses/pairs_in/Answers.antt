use Rattle.std.proofs.Common.{◌≡◌, List, ◌+◌, ◌-◌, ◌++◌, length, take, drop, ap, ◌∙◌, arith}
use Rattle.std.proofs.lemmas.List.{length-drop, take_all}
use Rattle.loss_cases.specs.Cases.{pairs_in, pairs_with}
use Rattle.loss_cases.specs.declared.losses.Loss.{Loss}
use Rattle.loss_cases.proofs.Alone.{pairs_next}
use Rattle.loss_cases.proofs.losses.pairs_in.Goals as goal

pub loop-at-preserved : goal.loop-at-preserved
loop-at-preserved c =
    let cells = c.args.cells.now in
    let at = c.loop-at.at in
    let behind : take (length cells - (at + 1)) (drop (at + 1) cells) ≡ drop (at + 1) cells =
    take_all (length cells - (at + 1)) (drop (at + 1) cells) (omega (arith, length-drop (at + 1) cells)) in
    ap (λ (losses : List Loss). losses ++ pairs_in (drop (at + 1) cells)) c.in_ok-append.ensures.items
    ∙ pairs_next cells at c.index-cells-at.result c.loop-at.losses.items c.in_ok-more.more.items c.loop-at-test.true
    c.index-cells-at.is
    (c.in_ok-more.ensures ∙ ap (pairs_with c.index-cells-at.result) behind)
    ∙ c.loop-at.invariant
