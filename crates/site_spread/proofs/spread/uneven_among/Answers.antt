use Rattle.std.proofs.Common.{cond, List, [], ◌∷◌, ◌++◌, sym, ap, ◌∙◌}
use Rattle.forecast_records.specs.declared.spread.Uneven.{Uneven}
use Rattle.site_spread.specs.Spots.{uneven_by}
use Rattle.site_spread.specs.Spread.{is_uneven}
use Rattle.what_if.proofs.Lists.{filter_map_next}
use Rattle.site_spread.proofs.spread.uneven_among.Goals as goal

pub loop-wanted-preserved : goal.loop-wanted-preserved
loop-wanted-preserved c =
    let w = c.wanted-item.result in
    let told = uneven_by c.args.zoning.now in
    let so_far : List Uneven = c.loop-wanted.uneven.items in
    c.in_ok-add_if_uneven.ensures
    ∙ ap (λ (u : Uneven). so_far ++ cond (is_uneven u) (u ∷ []) []) c.in_ok-next.ensures
    ∙ ap (λ (us : List Uneven). us ++ cond (is_uneven (told w)) (told w ∷ []) []) c.loop-wanted.invariant
    ∙ sym (filter_map_next told is_uneven c.args.list.now c.loop-wanted.wanted-index w c.loop-wanted-test.true
    c.wanted-item.is)
