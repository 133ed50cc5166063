use Rattle.std.proofs.Common.{◌∙◌, ap, false}
use Rattle.std.specs.List.{list_all}
use Rattle.std.specs.Option.{option_map_or}
use Rattle.scenario_lines.specs.Shapes.{names_given}
use Rattle.lock_lines.specs.Operations.{has_only, is_known}
use Rattle.lock_lines.proofs.MemberNames.{list_all-member_names}
use Rattle.lock_lines.proofs.operation.has_only.Goals as goal

pub returns-in-Some : goal.returns-in-Some
unfolding has_only
returns-in-Some c =
    c.are_known.ensures ∙ list_all-member_names (is_known c.args.operation) c.in-Some.object.now.entries
    ∙ ap (λ members. option_map_or (λ ms. list_all (is_known c.args.operation) (names_given ms)) members false)
    c.in-Some.ensures
