use Rattle.std.proofs.Common.{◌≡◌, take}
use Rattle.pair_runs.specs.Telling.{answers_words}
use Rattle.pair_runs.proofs.telling.answers_words.Given as goal

abbrev pub invariant-loop-answered : goal.invariant-loop-answered
invariant-loop-answered l = l.text.items ≡ answers_words l.actors (take l.answered-index l.answers)
