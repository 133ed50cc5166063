use Rattle.std.proofs.Common.{◌≡◌, ◌-◌, ◌≤◌, ◌++◌, length}
use Rattle.scenario_player.specs.Wordings.{events_from}
use Rattle.scenario_player.proofs.events.events_from.Given as goal

abbrev pub invariant-loop-at : goal.invariant-loop-at
invariant-loop-at g l = record {
  within : l.at ≤ length l.board.log;
  so_far : l.events.items ++ events_from l.board.base l.board.log l.at ≡ events_from l.board.base l.board.log l.from;
}

abbrev pub decreases-loop-at : goal.decreases-loop-at
decreases-loop-at g l = length l.board.log - l.at
