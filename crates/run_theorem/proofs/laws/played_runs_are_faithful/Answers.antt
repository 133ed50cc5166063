use Rattle.run_theorem.proofs.Faithful.{played_faithful, played_in_time}
use Rattle.run_theorem.proofs.KeepBase.{played_keep_base}
use Rattle.run_theorem.proofs.laws.played_runs_are_faithful.Goals as goal

pub returns-clause-faithful : goal.returns-clause-faithful
returns-clause-faithful g c =
    played_faithful g.D.Disk.told c.tasks_complete_once.ensures.once c.complete_rounds_converge.ensures
    c.rounds_have_accounts.ensures

pub returns-clause-ends : goal.returns-clause-ends
returns-clause-ends g c =
    played_in_time g.D.Disk.told c.tasks_complete_once.ensures.once c.complete_rounds_converge.ensures
    c.rounds_have_accounts.ensures

pub returns-clause-base : goal.returns-clause-base
returns-clause-base g c = played_keep_base g.D.Disk.told
