use Rattle.phase_text.proofs.Told.{some_before, some_behind}
use Rattle.phase_text.proofs.telling.add_around.Goals as goal

pub add_answers-requires : goal.add_answers-requires
add_answers-requires c =
    some_before c.args.actors.now c.args.lines.now c.args.answers.now c.split_by.result.0.now c.args.round.now.line
    c.split_by.ensures.before c.requires.answers

pub add_answers-requires-2 : goal.add_answers-requires-2
add_answers-requires-2 c =
    some_behind c.args.actors.now c.args.lines.now c.args.answers.now c.split_by.result.1.now c.args.round.now.line
    c.split_by.ensures.behind c.requires.answers
