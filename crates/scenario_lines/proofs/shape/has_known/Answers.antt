use Rattle.std.proofs.Common.{◌∙◌}
use Rattle.scenario_lines.specs.Shapes.{has_known, is_known}
use Rattle.scenario_lines.proofs.Among.{list_all-member_names}
use Rattle.scenario_lines.proofs.shape.has_known.Goals as goal

pub returns : goal.returns
unfolding has_known
returns c = c.are_known.ensures ∙ list_all-member_names (is_known c.args.form) c.args.members.now.object.now.entries
