use Rattle.std.proofs.Common.{◌≡◌, List, ◌++◌, filter, map, ap, ◌∙◌}
use Rattle.forecast_records.specs.declared.cases.Case.{Case}
use Rattle.loss_cases.specs.Cases.{alone_case, can_go_alone, case_of, goes_alone, pairs_in}
use Rattle.loss_cases.specs.Cells.{by_name, tagged_cells}
use Rattle.loss_cases.specs.declared.cells.TaggedCell.{TaggedCell}
use Rattle.loss_cases.specs.declared.losses.Loss.{Loss}
use Rattle.loss_cases.proofs.Alone.{pairs_behind}
use Rattle.loss_cases.proofs.trying.try_pairs.Goals as goal

pub returns : goal.returns
returns c =
    let site = c.args.question.now.base.site.now in
    let cases = c.args.cases.now.items in
    let named : c.as_slice.result.now ≡ by_name (tagged_cells site) =
    c.as_slice.ensures.value ∙ c.by_name-cells.ensures ∙ ap by_name c.in_ok-told.ensures.value in
    let able : c.as_slice-2.result.now ≡ can_go_alone site =
    c.as_slice-2.ensures.value ∙ c.in_ok-able.ensures.able ∙ ap (filter (goes_alone site)) named in
    let paired : c.as_slice-3.result.now ≡ pairs_in (can_go_alone site) =
    c.as_slice-3.ensures.value ∙ c.in_ok-pairs.ensures ∙ ap pairs_in able in
    c.in_ok-try_each.ensures
    ∙ ap (λ (xs : List Case). xs ++ map (case_of site) c.as_slice-3.result.now)
    (c.in_ok-able.ensures.cases ∙ ap (λ (cs : List TaggedCell). cases ++ map (alone_case site) cs) named)
    ∙ ap (λ (ls : List Loss). (cases ++ map (alone_case site) (by_name (tagged_cells site))) ++ map (case_of site) ls)
    paired
    ∙ pairs_behind site cases
