use Rattle.std.proofs.Common.{ap, ◌∙◌}
use Rattle.std.specs.List.{filter_map, find}
use Rattle.std.specs.Option.{option_and_then}
use Rattle.site_spread.specs.Together.{in_zone_by, on_cell_by}
use Rattle.site_spread.specs.Spread.{is_of_process, one_cell_at, one_zone_at, processes}
use Rattle.site_spread.proofs.Looking.{in_zone-by, on_cell-by}
use Rattle.what_if.proofs.Agreeing.{filter_map-same}
use Rattle.what_if.specs.declared.site.Wanted.{Wanted}
use Rattle.site_spread.proofs.tallies.together_in.Goals as goal

pub returns-clause-on_cell : goal.returns-clause-on_cell
returns-clause-on_cell c =
    let stays = c.args.stays.now in
    let told = on_cell_by c.in_ok-tallies.tallies in
    c.from.ensures ∙ c.in_ok-on_cell.ensures
    ∙ ap (filter_map told) (c.deref.ensures.value ∙ c.in_ok-list.ensures)
    ∙ filter_map-same told (λ (w : Wanted). option_and_then (one_cell_at stays w.key.process)
    (find (is_of_process w.key.process) stays))
    (on_cell-by c.in_ok-tallies.ensures) (processes c.args.site.now)

pub returns-clause-in_zone : goal.returns-clause-in_zone
returns-clause-in_zone c =
    let stays = c.args.stays.now in
    let told = in_zone_by c.in_ok-tallies.tallies in
    c.from-2.ensures ∙ c.in_ok-in_zone.ensures
    ∙ ap (filter_map told) (c.deref-2.ensures.value ∙ c.in_ok-list.ensures)
    ∙ filter_map-same told (λ (w : Wanted). option_and_then (one_zone_at stays w.key.process)
    (find (is_of_process w.key.process) stays))
    (in_zone-by c.in_ok-tallies.ensures) (processes c.args.site.now)
