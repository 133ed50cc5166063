use Rattle.converge_round.proofs.FaultLaws.{caused_at_once, caused_by_nothing_else}
use Rattle.converge_round.proofs.Owns.{own_called}
use Rattle.converge_round.proofs.Sure.{sure_none, sure_any, sure_called, sure_fault}
use Rattle.converge_round.proofs.calls.call_once.Goals as goal

pub returns-in-Err-clause-own : goal.returns-in-Err-clause-own
returns-in-Err-clause-own g c = own_called _ _ _ _ _ c.in-Err.ensures.called

pub returns-in-Ok-clause-own : goal.returns-in-Ok-clause-own
returns-in-Ok-clause-own g c = own_called _ _ _ _ _ c.in-Ok.ensures.called

pub returns-in-Err-clause-cause : goal.returns-in-Err-clause-cause
returns-in-Err-clause-cause g c = caused_at_once _ _ _ _ _ c.in-Err.ensures.called

pub returns-in-Ok-clause-cause : goal.returns-in-Ok-clause-cause
returns-in-Ok-clause-cause g c = caused_by_nothing_else c.count_reply.result _ _ _ c.count_reply.ensures.memory

pub returns-in-Err-clause-sure : goal.returns-in-Err-clause-sure
returns-in-Err-clause-sure g c =
    sure_fault c.in-Err.fault _ _ _ (sure_none _) (sure_called _ _ _ _ _ c.in-Err.ensures.called)

pub returns-in-Ok-clause-sure : goal.returns-in-Ok-clause-sure
returns-in-Ok-clause-sure g c =
    sure_any c.count_reply.result _ _ (sure_called _ _ _ _ _ c.in-Ok.ensures.called)
