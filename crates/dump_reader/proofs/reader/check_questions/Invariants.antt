use Rattle.std.proofs.Common.{◌≡◌, drop}
use Rattle.dump_reader.specs.Answerable.{questions_verdict}
use Rattle.dump_reader.proofs.reader.check_questions.Given as goal

abbrev pub invariant-loop-asked : goal.invariant-loop-asked
invariant-loop-asked l = questions_verdict l.reading.dump (drop l.asked-index l.questions)
    ≡ questions_verdict l.reading.dump l.questions
