use Rattle.std.proofs.Common.{sym, ◌∙◌, ap, ◌++◌, ◌∷◌, []}
use Rattle.evacuation.proofs.Parts.{has_drained, evacuates_refused, evacuates_settled}
use Rattle.evacuation.proofs.evacuating.evacuate.Goals as goal

pub returns-then-not-is_agreed-clause-evacuated : goal.returns-then-not-is_agreed-clause-evacuated
returns-then-not-is_agreed-clause-evacuated g c =
    evacuates_refused _ _ _ _ c.drain-answer.result
    (has_drained _ _ c.args.rep.now c.drain-answer.new.self _ _ _ _ _ _ c.args.out.now.items c.add_answer.new.out.items
    c.drain-answer.result c.drain-answer.ensures.drained
    (c.add_answer.ensures ∙ ap (λ xs. xs ++ c.drain-answer.result ∷ []) c.reserve.ensures.items))
    (sym c.is_agreed.ensures ∙ c.if-not-is_agreed.true)

pub returns-in-Ok-clause-evacuated : goal.returns-in-Ok-clause-evacuated
returns-in-Ok-clause-evacuated g c =
    evacuates_settled _ _ _ _ _ _ c.drain-answer.result
    (has_drained _ _ c.args.rep.now c.drain-answer.new.self _ _ _ _ _ _ c.args.out.now.items c.add_answer.new.out.items
    c.drain-answer.result c.drain-answer.ensures.drained
    (c.add_answer.ensures ∙ ap (λ xs. xs ++ c.drain-answer.result ∷ []) c.reserve.ensures.items))
    (sym c.is_agreed.ensures ∙ c.if-not-is_agreed.false) c.drain-answer.ensures.number c.in-Ok.ensures.acted
