use Rattle.std.proofs.Common.{◌≡◌, ◌++◌, map, take}
use Rattle.std.specs.List.{filter_map}
use Rattle.bbs_model.specs.Work.{at}
use Rattle.differences.specs.Commands.{vanish}
use Rattle.differences.proofs.commands.add_vanish.Given as goal

abbrev pub invariant-loop-cell : goal.invariant-loop-cell
invariant-loop-cell l = l.list ≡ l.fn.list ++ map (at l.now) (filter_map vanish (take l.cell-index l.cells))
