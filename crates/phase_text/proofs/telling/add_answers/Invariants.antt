use Rattle.std.proofs.Common.{◌≡◌, ◌++◌, take}
use Rattle.phase_text.specs.Texts.{answers_words}
use Rattle.phase_text.proofs.telling.add_answers.Given as goal

abbrev pub invariant-loop-answered : goal.invariant-loop-answered
invariant-loop-answered l =
    l.text.items ≡ l.fn.text.items ++ answers_words l.actors l.lines (take l.answered-index l.answers)
