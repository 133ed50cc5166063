use Rattle.std.proofs.Common.{◌≡◌, take}
use Rattle.std.specs.List.{flat_map}
use Rattle.bbs_model.specs.Told.{each_event}
use Rattle.bbs_model.proofs.hearing.each_of.Given as goal

abbrev pub invariant-loop-one : goal.invariant-loop-one
invariant-loop-one l = l.events ≡ flat_map each_event (take l.one-index l.told)
