use Rattle.record_print.proofs.Lines.{listed}
use Rattle.record_print.proofs.round.put_subjects.Goals as goal

pub returns : goal.returns
returns c = listed _ c.args.jobs.now c.end_list.result c.in_ok-begin_list.ensures c.in_ok-put_jobs.ensures
    c.end_list.ensures
