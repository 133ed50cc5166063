use Rattle.std.proofs.Common.{◌≡◌, ◌++◌, map, take}
use Rattle.std.specs.List.{filter_map}
use Rattle.bbs_model.specs.Work.{at}
use Rattle.differences.specs.Commands.{forget}
use Rattle.differences.proofs.commands.add_forget.Given as goal

abbrev pub invariant-loop-domain : goal.invariant-loop-domain
invariant-loop-domain l = l.list ≡ l.fn.list ++ map (at l.now) (filter_map forget (take l.domain-index l.domains))
