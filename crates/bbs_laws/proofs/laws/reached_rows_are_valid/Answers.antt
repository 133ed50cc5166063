use Rattle.bbs_laws.proofs.KeepLogs.{IsValid-reached, epochs_are_past}
use Rattle.bbs_laws.proofs.laws.reached_rows_are_valid.Goals as goal

pub returns-clause-valid : goal.returns-clause-valid
returns-clause-valid c = IsValid-reached

pub returns-clause-epochs : goal.returns-clause-epochs
returns-clause-epochs c base log from rows valid lawful reached =
    epochs_are_past rows (IsValid-reached base log from rows valid lawful reached)
