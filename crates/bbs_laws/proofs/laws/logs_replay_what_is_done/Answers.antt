use Rattle.bbs_laws.proofs.KeepLogs.{replays_what_is_done, log_goes_on}
use Rattle.bbs_laws.proofs.laws.logs_replay_what_is_done.Goals as goal

pub returns-clause-done : goal.returns-clause-done
returns-clause-done c = replays_what_is_done

pub returns-clause-goes_on : goal.returns-clause-goes_on
returns-clause-goes_on c = log_goes_on
