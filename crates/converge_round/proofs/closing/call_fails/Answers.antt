use Rattle.converge_round.proofs.Owns.{own_none}
use Rattle.converge_round.proofs.FaultLaws.{caused_by_want}
use Rattle.converge_round.proofs.Sure.{sure_none, sure_fault}
use Rattle.converge_round.proofs.closing.call_fails.Goals as goal

pub returns-in-Err-clause-own : goal.returns-in-Err-clause-own
returns-in-Err-clause-own g c = own_none _ _ _

pub returns-in-Err-fails_of-clause-own : goal.returns-in-Err-fails_of-clause-own
returns-in-Err-fails_of-clause-own g c = own_none _ _ _

pub returns-in-Err-clause-cause : goal.returns-in-Err-clause-cause
returns-in-Err-clause-cause g c = caused_by_want _ _ _

pub returns-in-Err-fails_of-clause-cause : goal.returns-in-Err-fails_of-clause-cause
returns-in-Err-fails_of-clause-cause g c = caused_by_want _ _ _

pub returns-in-Err-clause-sure : goal.returns-in-Err-clause-sure
returns-in-Err-clause-sure g c = sure_none _

pub returns-in-Err-fails_of-clause-sure : goal.returns-in-Err-fails_of-clause-sure
returns-in-Err-fails_of-clause-sure g c = sure_none _

pub returns-in-Err-call_each-clause-sure : goal.returns-in-Err-call_each-clause-sure
returns-in-Err-call_each-clause-sure g c =
    sure_fault c.in-Err-call_each.fault _ _ _ (sure_none _) c.in-Err-call_each.ensures.sure
