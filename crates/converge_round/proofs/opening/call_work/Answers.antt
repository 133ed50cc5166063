use Rattle.std.proofs.Common.{◌∙◌}
use Rattle.bbs_model.specs.Work.{work}
use Rattle.converge_round.proofs.Asked.{asked_looks, asked_list, on_ok, called_read}
use Rattle.bbs_model.proofs.Public.{later_looks}
use Rattle.converge_round.proofs.FaultLaws.{caused_by_want, causes_before}
use Rattle.converge_round.proofs.Sure.{sure_looks, sure_behind}
use Rattle.converge_round.proofs.opening.call_work.Goals as goal

pub returns-in-Err-clause-own : goal.returns-in-Err-clause-own
returns-in-Err-clause-own g c = asked_looks _ _ _ _ c.in-Err.ensures.looks

pub returns-in-Ok-clause-own : goal.returns-in-Ok-clause-own
returns-in-Ok-clause-own g c =
    asked_list _ _ (λ rows. work rows c.args.now) _ _ _ _ c.in-Ok.ensures.number c.in-Ok.ensures.looks
    (c.items.ensures ∙ c.in-Ok.ensures.work) c.call_each.ensures.own

pub returns-in-Ok-clause-called : goal.returns-in-Ok-clause-called
returns-in-Ok-clause-called g c =
    on_ok _ _ _ (λ f. called_read _ _ (λ rows. work rows c.args.now) _ _ _ _ _ _ c.in-Ok.ensures.number
    c.in-Ok.ensures.looks (c.items.ensures ∙ c.in-Ok.ensures.work) f) c.call_each.ensures.noted

pub returns-in-Err-clause-cause : goal.returns-in-Err-clause-cause
returns-in-Err-clause-cause g c = caused_by_want _ _ _

pub returns-in-Ok-clause-cause : goal.returns-in-Ok-clause-cause
returns-in-Ok-clause-cause g c =
    causes_before c.call_each.result _ _ _ _ _ c.in-Ok.ensures.number
    (later_looks _ _ c.in-Ok.ensures.looks) c.call_each.ensures.cause

pub returns-in-Err-clause-sure : goal.returns-in-Err-clause-sure
returns-in-Err-clause-sure g c = sure_looks _ _ c.in-Err.ensures.looks

pub returns-in-Ok-clause-sure : goal.returns-in-Ok-clause-sure
returns-in-Ok-clause-sure g c =
    sure_behind c.call_each.result _ _ _ (sure_looks _ _ c.in-Ok.ensures.looks) c.call_each.ensures.sure
