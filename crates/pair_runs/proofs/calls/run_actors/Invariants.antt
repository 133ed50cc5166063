use Rattle.pair_runs.specs.Turns.{RunsTurns, turns_of_all}
use Rattle.pair_runs.proofs.calls.run_actors.Given as goal

abbrev pub invariant-loop-number : goal.invariant-loop-number
invariant-loop-number g l = record {
  keeps : g.S.Server.keeps l.initial.server l.server;
  runs : RunsTurns (turns_of_all l.at l.lines l.number) (g.S.Server.view l.initial.server) (g.S.Server.view l.server)
      l.initial.account.answers l.account.answers;
}
