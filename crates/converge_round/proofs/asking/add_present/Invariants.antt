use Rattle.std.proofs.Common.{◌≡◌, ◌++◌, take}
use Rattle.std.specs.List.{filter_map}
use Rattle.converge_round.specs.Askings.{present_at}
use Rattle.converge_round.proofs.asking.add_present.Given as goal

abbrev pub invariant-loop-row : goal.invariant-loop-row
invariant-loop-row l = l.present ≡ l.fn.present ++ filter_map (present_at l.now) (take l.row-index l.rows)
