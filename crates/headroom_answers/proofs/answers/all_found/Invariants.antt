use Rattle.std.proofs.Common.{◌≡◌, map, take}
use Rattle.headroom_answers.specs.Findings.{found_of}
use Rattle.headroom_answers.proofs.answers.all_found.Given as goal

abbrev pub invariant-loop-asked : goal.invariant-loop-asked
invariant-loop-asked l = l.list ≡ map (found_of l.site l.proxy) (take l.asked-index l.questions)
