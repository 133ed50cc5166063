use Rattle.std.proofs.Common.{◌∙◌, sym, ap}
use Rattle.serde_json.specs.Read.{read}
use Rattle.scenario_lines.specs.Flaws.{or_json}
use Rattle.scenario_lines.proofs.JsonText.{json_of-not_utf8, json_of-utf8}
use Rattle.scenario_lines.proofs.json.json_of.Goals as goal

pub returns-in_default : goal.returns-in_default
returns-in_default c = json_of-not_utf8 c.args.line.now c.in_default.ensures.cases.0

pub returns-in-Ok-from_str : goal.returns-in-Ok-from_str
returns-in-Ok-from_str c =
    let text = c.in-Ok.ensures in
    json_of-utf8 c.args.line.now text.cases.1 ∙ ap (λ bytes. or_json (read bytes))
    (sym text.cases.0) ∙ ap or_json c.in-Ok-from_str.ensures.ok
