use Rattle.std.proofs.Common.{rules, ◌≡◌, ◌∙◌, true}
use Rattle.program_tools.specs.Numbers.{begins_as_number, is_digits}
use Rattle.program_tools.proofs.NumberTexts.{parsed}
use Rattle.program_tools.proofs.number.number_of.Goals as goal

pub returns : goal.returns
returns c =
    let begins : begins_as_number c.args.text.now ≡ true = search rules in
    let digits : is_digits c.args.text.now ≡ true = search rules in
    c.ok.ensures.value ∙ parsed c.args.text.now c.parse.result begins digits c.parse.ensures.value.0
