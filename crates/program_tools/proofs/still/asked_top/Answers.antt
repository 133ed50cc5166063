use Rattle.program_tools.proofs.AskedLaws.{no_locks, still_asked}
use Rattle.program_tools.proofs.still.asked_top.Goals as goal

pub returns-clause-ends : goal.returns-clause-ends
returns-clause-ends g c = let (how, status, ends) = c.tools_top.ensures.ends in
    (how, status, still_asked _ _ _ _ _ _ how c.args.asked ends)
