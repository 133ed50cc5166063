use Rattle.std.proofs.Common.{◌≡◌, ◌++◌, take}
use Rattle.bbs_model.specs.Work.{wanted_places}
use Rattle.convergence.proofs.placing.add_wanted.Given as goal

abbrev pub invariant-loop-one : goal.invariant-loop-one
invariant-loop-one l = l.all.items ≡ l.fn.all.items ++ wanted_places (take l.one-index l.desired)
