use Rattle.std.proofs.Common.{◌≡◌, take}
use Rattle.bbs_board.specs.Doubts.{doubts_in}
use Rattle.scenario_player.proofs.counting.doubts_in.Given as goal

abbrev pub invariant-loop-item : goal.invariant-loop-item
invariant-loop-item l = l.doubts ≡ doubts_in (take l.item-index l.items)
