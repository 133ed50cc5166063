use Rattle.std.proofs.Common.{map}
use Rattle.std.specs.List.{range_with_len}
use Rattle.pair_runs.specs.Turns.{RunsTurns, turn_at}
use Rattle.pair_runs.proofs.calls.run_times.Given as goal

abbrev pub invariant-loop-number : goal.invariant-loop-number
invariant-loop-number g l = record {
  keeps : g.S.Server.keeps l.initial.server l.server;
  runs : RunsTurns (map (turn_at l.line l.command) (range_with_len 0 l.number)) (g.S.Server.view l.initial.server)
      (g.S.Server.view l.server) l.initial.account.answers l.account.answers;
}
