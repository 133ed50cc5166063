use Rattle.converge_round.proofs.RepLaws.{rep_same}
use Rattle.converge_round.proofs.StartLaws.{rep_started}
use Rattle.converge_round.proofs.starting.send_start.Goals as goal

pub returns-then-reaches-clause-rep : goal.returns-then-reaches-clause-rep
returns-then-reaches-clause-rep g c = rep_started _ c.args.start.job _ _ _ c.start_job-called.ensures.cell
    c.start_job-called.ensures.started

pub returns-else-reaches-clause-rep : goal.returns-else-reaches-clause-rep
returns-else-reaches-clause-rep g c = rep_same _
