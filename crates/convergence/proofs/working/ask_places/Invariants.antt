use Rattle.std.proofs.Common.{◌≡◌, ◌++◌, map, take}
use Rattle.std.specs.List.{filter_map}
use Rattle.bbs_model.specs.Work.{at, place_work}
use Rattle.convergence.proofs.working.ask_places.Given as goal

abbrev pub invariant-loop-place : goal.invariant-loop-place
invariant-loop-place l = l.asked ≡ l.fn.asked ++ map (at l.now)
    (filter_map (place_work l.rows l.now) (take l.place-index l.places))
