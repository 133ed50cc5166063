use Rattle.std.proofs.Common.{◌∙◌}
use Rattle.cell_tests.proofs.Chains.{played_next}
use Rattle.cell_tests.proofs.playing.play.Goals as goal

pub loop-turn-preserved : goal.loop-turn-preserved
loop-turn-preserved g c =
    let i = c.loop-turn.invariant in
    let p = c.in-Ok.ensures in
    record {
      played = played_next _ _ c.args.turns.now c.loop-turn.turn-index c.turn-item.result _ _ _ _ i.number
          c.loop-turn-test.true c.turn-item.is i.played p.taken;
      keeps = g.met.P.Port.goes_on c.args.port.now c.loop-turn.port c.take_turn.new.port i.keeps p.keeps;
      number = p.number ∙ i.number;
    }
