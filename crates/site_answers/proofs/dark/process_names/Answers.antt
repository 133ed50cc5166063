use Rattle.std.proofs.Common.{map, ap, ◌∙◌}
use Rattle.site_answers.specs.Losses.{process_of}
use Rattle.site_answers.proofs.dark.process_names.Goals as goal

pub returns : goal.returns
returns c = c.in_ok-names.ensures ∙ ap (map process_of) (c.deref.ensures.value ∙ c.in_ok-list.ensures)
