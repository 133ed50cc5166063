use Rattle.std.proofs.Common.{rules, ◌≡◌, ◌==◌, Some, None, ◌∙◌, ap, sym}
use Rattle.std.specs.List.{list_any}
use Rattle.scenario_lines.specs.Places.{member_named, place}
use Rattle.scenario_lines.proofs.Known.{is_known-allowed, is_known-needed, is_known-unnamed}
use Rattle.scenario_lines.proofs.shape.is_known.Goals as goal

pub returns-then-is_among : goal.returns-then-is_among
returns-then-is_among c =
    let named : member_named c.args.name.now ≡ Some c.in-Some.member = search rules in
    let is = c.is_among.ensures ∙ ap (list_any (λ one. place one == place c.in-Some.member)) c.needs.ensures in
    is_known-needed c.args.form c.args.name.now c.in-Some.member c.is_among.result named is c.if-is_among.true

pub returns-else-is_among : goal.returns-else-is_among
returns-else-is_among c =
    let named : member_named c.args.name.now ≡ Some c.in-Some.member = search rules in
    let is = c.is_among.ensures ∙ ap (list_any (λ one. place one == place c.in-Some.member)) c.needs.ensures in
    let also = c.is_among-else-is_among.ensures ∙ ap (list_any (λ one. place one == place c.in-Some.member))
    c.allows.ensures in
    is_known-allowed c.args.form c.args.name.now c.in-Some.member c.is_among.result c.is_among-else-is_among.result
    named is c.if-is_among.false also

pub returns-in-None : goal.returns-in-None
returns-in-None c =
    let unnamed : member_named c.args.name.now ≡ None = search rules in
    sym (is_known-unnamed c.args.form c.args.name.now unnamed)
