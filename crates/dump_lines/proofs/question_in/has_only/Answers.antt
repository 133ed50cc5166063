use Rattle.std.proofs.Common.{◌∙◌, ap, false}
use Rattle.std.specs.List.{list_all}
use Rattle.std.specs.Option.{option_map_or}
use Rattle.dump_lines.specs.Questions.{has_only, is_known, names_given}
use Rattle.dump_lines.proofs.Lists.{list_all-member_names}
use Rattle.dump_lines.proofs.question_in.has_only.Goals as goal

pub returns-in-Some : goal.returns-in-Some
unfolding has_only
returns-in-Some c =
    c.are_known.ensures ∙ list_all-member_names (is_known c.args.ask) c.in-Some.object.now.entries
    ∙ ap (λ members. option_map_or (λ ms. list_all (is_known c.args.ask) (names_given ms)) members false)
    c.in-Some.ensures
