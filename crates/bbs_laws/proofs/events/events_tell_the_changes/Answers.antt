use Rattle.bbs_laws.proofs.KeepEvents.{tells_each_row}
use Rattle.bbs_laws.proofs.KeepTruth.{tells_truth}
use Rattle.bbs_laws.proofs.events.events_tell_the_changes.Goals as goal

pub returns-clause-few : goal.returns-clause-few
returns-clause-few c = tells_each_row

pub returns-clause-true_of : goal.returns-clause-true_of
returns-clause-true_of c = tells_truth
