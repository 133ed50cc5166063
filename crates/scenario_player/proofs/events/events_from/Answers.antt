use Rattle.std.proofs.Common.{◌++◌, List, ap, arith, ◌∙◌}
use Rattle.bbs_model.specs.declared.event.Event.{Event}
use Rattle.scenario_player.specs.Wordings.{events_from}
use Rattle.scenario_player.proofs.Hearing.{heard_more, heard_whole}
use Rattle.scenario_player.proofs.events.events_from.Goals as goal

pub loop-at-preserved : goal.loop-at-preserved
loop-at-preserved g c =
    let v = c.args.board.now in
    let heard = c.in_ok-heard.heard in
    let i = c.loop-at.invariant in
    record {
      within = omega (arith, c.in_ok-heard.ensures.upto, i.within);
      so_far =
          ap (λ (xs : List Event). xs ++ events_from v.base v.log heard.upto)
          (c.in_ok-extend_from_slice.ensures.items ∙ ap (λ (xs : List Event). c.loop-at.events.items ++ xs)
          c.items.ensures)
          ∙ heard_more v.base v.log c.loop-at.events.items c.args.from c.loop-at.at 65536 heard i.so_far
          c.in_ok-heard.ensures;
    }

pub returns : goal.returns
returns g c =
    let v = c.args.board.now in
    heard_whole v.base v.log c.loop-at.events.items c.args.from c.loop-at.at c.loop-at.invariant.so_far
    (omega (arith, c.loop-at-test.false, c.place.ensures))
