use Rattle.std.proofs.Common.{◌∙◌, ap, ◌++◌, ◌∷◌, []}
use Rattle.cell_tests.proofs.Chains.{taken_behind}
use Rattle.cell_tests.proofs.playing.take_once.Goals as goal

pub returns-clause-taken : goal.returns-clause-taken
returns-clause-taken g c =
    taken_behind _ c.args.turn.now c.args.now c.args.rep.now c.answer_once-answer.new.rep _ _ _ _ _ _
    c.args.out.now.items c.add_answer.new.out.items c.answer_once-answer.result
    c.requires c.answer_once-answer.ensures.taken
    (c.add_answer.ensures ∙ ap (λ xs. xs ++ c.answer_once-answer.result ∷ []) c.in_ok-reserve.ensures.items)
