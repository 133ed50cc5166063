use Rattle.std.proofs.Common.{◌∙◌, ap, subst}
use Rattle.serde_json.specs.View.{view}
use Rattle.scenario_lines.specs.Flaws.{GivesContent}
use Rattle.scenario_lines.specs.Outlines.{content_with}
use Rattle.scenario_lines.specs.Places.{object_of}
use Rattle.scenario_lines.specs.Said.{content_as}
use Rattle.scenario_lines.proofs.Objects.{no_object, object_is}
use Rattle.scenario_lines.proofs.line.outline_as.Goals as goal

pub returns-in-Some : goal.returns-in-Some
returns-in-Some c =
    let same = ap object_of c.new.ensures ∙ object_is (view c.args.value.now) _ c.in-Some.ensures in
    subst (λ d. GivesContent (content_with c.outline_among.new.act) c.outline_among.result (content_as d)) same
    c.outline_among.ensures

pub returns-in-None : goal.returns-in-None
returns-in-None c = no_object (view c.args.value.now) c.in-None.ensures
