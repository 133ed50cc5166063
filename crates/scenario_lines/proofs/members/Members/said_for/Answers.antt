use Rattle.std.proofs.Common.{◌∙◌, ap, slice_index_or}
use Rattle.serde_json.proofs.Views.{view-lookup}
use Rattle.scenario_lines.specs.Members.{said_for, word}
use Rattle.scenario_lines.specs.Places.{place, value_named}
use Rattle.scenario_lines.proofs.Kept.{read_kept}
use Rattle.scenario_lines.proofs.members.Members.said_for.Goals as goal

pub returns : goal.returns
unfolding said_for
returns c =
    let members = c.args.self.now in
    let entries = members.object.now.entries in
    let read = c.index-said-place.result in
    let is = c.index-said-place.is ∙ ap (λ i. slice_index_or members.said.now i read) c.place.ensures.is in
    read_kept members.said.now (place c.args.member) read (value_named (word c.args.member) entries) is
    (members.kept c.args.member)
    ∙ view-lookup (word c.args.member) entries
