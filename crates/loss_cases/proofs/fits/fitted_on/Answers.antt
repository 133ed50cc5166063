use Rattle.std.proofs.Common.{◌≤◌, ◌^◌, List, sym, ap, subst, ◌∙◌}
use Rattle.std.specs.List.{sum_by}
use Rattle.auctioneer.specs.declared.stand.Stand.{Stand}
use Rattle.forecast_records.specs.declared.fits.Filled.{Filled}
use Rattle.what_if.specs.Plans.{stands_from}
use Rattle.loss_cases.specs.Fits.{filled_cells}
use Rattle.loss_cases.proofs.Growing.{sum_fits}
use Rattle.loss_cases.proofs.fits.fitted_on.Goals as goal

pub zones_filled-requires : goal.zones_filled-requires
zones_filled-requires c =
    let before : List Stand = c.args.before.now in
    let jobs = c.args.jobs.now in
    let stood = c.stands.ensures ∙ c.in_ok-trial.ensures.stands ∙ ap
    (λ (ss : List Stand). stands_from ss jobs) c.requires.start in
    let is = c.as_slice.ensures.value ∙ c.in_ok-filled.ensures ∙ ap
    (λ (ss : List Stand). filled_cells before ss) stood in
    subst (λ (fs : List Filled). sum_by (λ (f : Filled). f.instances) fs ≤ 2 ^ 63) (sym is)
    (sum_fits before jobs c.requires.few c.requires.jobs)
