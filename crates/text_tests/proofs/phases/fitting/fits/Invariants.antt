use Rattle.std.proofs.Common.{take}
use Rattle.phase_text.specs.Answers.{AreActorAnswers}
use Rattle.text_tests.proofs.phases.fitting.fits.Given as goal

abbrev pub invariant-loop-answered : goal.invariant-loop-answered
invariant-loop-answered l = AreActorAnswers l.actors l.lines (take l.answered-index l.answers)
