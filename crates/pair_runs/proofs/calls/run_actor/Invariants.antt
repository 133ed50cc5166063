use Rattle.std.proofs.Common.{take}
use Rattle.pair_runs.specs.Turns.{RunsTurns, turns_in}
use Rattle.pair_runs.proofs.calls.run_actor.Given as goal

abbrev pub invariant-loop-line : goal.invariant-loop-line
invariant-loop-line g l = record {
  keeps : g.S.Server.keeps l.initial.server l.server;
  runs : RunsTurns (turns_in l.at (take l.line-index l.lines) l.by) (g.S.Server.view l.initial.server)
      (g.S.Server.view l.server) l.initial.account.answers l.account.answers;
}
