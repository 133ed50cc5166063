use Rattle.std.proofs.Common.{◌≡◌, take, []}
use Rattle.cell_rep.specs.Follows.{stage}
use Rattle.cell_tests.specs.Turns.{ArePlayed}
use Rattle.cell_tests.proofs.playing.play.Given as goal

abbrev pub invariant-loop-turn : goal.invariant-loop-turn
invariant-loop-turn g l = record {
  played : ArePlayed (g.P.Port.number l.initial.port) (take l.turn-index l.turns) l.now
      (stage l.initial.rep (g.P.Port.view l.initial.port) (g.W.Wire.ends l.initial.wire)
      (g.W.Wire.losses l.initial.wire) [])
      (stage l.rep (g.P.Port.view l.port) (g.W.Wire.ends l.wire) (g.W.Wire.losses l.wire) l.out.items);
  keeps : g.P.Port.keeps l.initial.port l.port;
  number : g.P.Port.number l.port ≡ g.P.Port.number l.initial.port;
}
