use Rattle.std.proofs.Common.{List, filter, map, subst, sym, ap, ◌∙◌}
use Rattle.forecast_records.specs.declared.spread.Uneven.{Uneven}
use Rattle.site_spread.specs.Spots.{uneven_by}
use Rattle.site_spread.specs.Spread.{is_uneven, processes, uneven_at}
use Rattle.site_spread.proofs.Looking.{uneven-by, uneven_differ}
use Rattle.what_if.proofs.Agreeing.{map-same}
use Rattle.what_if.proofs.Differing.{Differ}
use Rattle.what_if.specs.Stays.{open_cells}
use Rattle.what_if.specs.declared.site.Wanted.{Wanted}
use Rattle.site_spread.proofs.spread.uneven_in.Goals as goal

pub returns-clause-value : goal.returns-clause-value
returns-clause-value c =
    let site = c.args.site.now in
    let told = uneven_by c.in_ok-zoning.zoning in
    let cells = open_cells site c.args.lost.now in
    c.in_ok-uneven.ensures
    ∙ ap (λ (ws : List Wanted). filter is_uneven (map told ws)) (c.deref.ensures.value ∙ c.in_ok-list.ensures)
    ∙ ap (filter is_uneven) (map-same told (uneven_at site cells c.args.stays.now) (uneven-by c.in_ok-zoning.ensures)
    (processes site))

pub returns-clause-once : goal.returns-clause-once
returns-clause-once c =
    let site = c.args.site.now in
    let told = uneven_by c.in_ok-zoning.zoning in
    let cells = open_cells site c.args.lost.now in
    subst (λ (us : List Uneven). Differ (map (λ (u : Uneven). u.process) us))
    (sym (c.in_ok-uneven.ensures
    ∙ ap (λ (ws : List Wanted). filter is_uneven (map told ws)) (c.deref.ensures.value ∙ c.in_ok-list.ensures)
    ∙ ap (filter is_uneven) (map-same told (uneven_at site cells c.args.stays.now) (uneven-by c.in_ok-zoning.ensures)
    (processes site))))
    (uneven_differ site cells c.args.stays.now)
