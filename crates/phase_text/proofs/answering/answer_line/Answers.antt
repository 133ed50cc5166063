use Rattle.std.proofs.Common.{◌∙◌}
use Rattle.phase_text.proofs.Told.{told_as}
use Rattle.phase_text.proofs.answering.answer_line.Goals as goal

pub returns : goal.returns
returns c =
    c.in_ok-text.ensures
    ∙ told_as c.args.actors.now c.args.lines.now c.args.answered.now _ _ _ c.name_of-name.ensures
    c.asked_at-asked.ensures c.line_of-line.ensures
