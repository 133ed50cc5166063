use Rattle.std.proofs.Common.{Bool, List, length, map, filter, refl, sym, ap, ◌∙◌}
use Rattle.cell_records.specs.declared.job.Job.{Job}
use Rattle.auctioneer.specs.Stands.{stands_of}
use Rattle.auctioneer.specs.declared.stand.Stand.{Stand}
use Rattle.what_if.specs.Placed.{planned_from, was_held}
use Rattle.what_if.specs.Plans.{without_jobs}
use Rattle.what_if.specs.Verdicts.{verdict_of}
use Rattle.what_if.proofs.Few.{few_bare, few_jobs, few_stands}
use Rattle.what_if.proofs.Parts.{made_plan}
use Rattle.what_if.proofs.planning.plan_on.Goals as goal

pub place_all-requires-clause-few : goal.place_all-requires-clause-few
place_all-requires-clause-few c =
    few_bare _ c.args.cells.now c.requires.cells
    (c.deref.ensures.value ∙ c.in_ok-bare.ensures ∙ ap (map without_jobs) (c.stands.ensures ∙ c.in_ok-auction.ensures))

pub place_all-requires-clause-turn : goal.place_all-requires-clause-turn
place_all-requires-clause-turn c = few_stands _ c.args.cells.now c.requires.cells c.in_ok-auction.ensures

pub verdict_of-verdict-requires-clause-stands : goal.verdict_of-verdict-requires-clause-stands
verdict_of-verdict-requires-clause-stands c =
    few_bare _ c.args.cells.now c.requires.cells
    (c.deref-3.ensures.value ∙ c.in_ok-bare.ensures ∙ ap (map without_jobs) (c.stands.ensures
    ∙ c.in_ok-auction.ensures))

pub verdict_of-verdict-requires-clause-jobs : goal.verdict_of-verdict-requires-clause-jobs
verdict_of-verdict-requires-clause-jobs c =
    few_jobs _ c.args.waiting.now c.requires.few (c.deref-4.ensures.value ∙ c.in_ok-jobs.ensures)

pub returns : goal.returns
returns c =
    let holders = c.args.before.now in
    let held : Job → Bool = was_held holders in
    let before : List Stand = c.deref.result.now in
    let jobs : List Job = c.deref-2.result.now in
    let waiting : List Job = c.args.waiting.now in
    c.plan_from.ensures
    ∙ made_plan c.in_ok-outcome.ensures waiting
    (c.deref.ensures.value ∙ c.in_ok-bare.ensures ∙ ap (map without_jobs) c.stands.ensures) _
    record {
      jobs = sym c.deref-2.ensures.value;
      before = sym c.deref.ensures.value;
      placements = refl;
      left = refl;
      without_room = refl;
      stands = refl;
      displaced = ap length (c.deref-6.ensures.value ∙ c.in_ok-displaced.ensures);
      verdict =
          c.verdict_of-verdict.ensures
          ∙ ap (λ (x : List Stand). verdict_of x c.deref-4.result.now c.deref-5.result.now)
          (c.deref-3.ensures.value ∙ sym c.deref.ensures.value)
          ∙ ap (λ (x : List Job). verdict_of before x c.deref-5.result.now)
          (c.deref-4.ensures.value ∙ sym c.deref-2.ensures.value)
          ∙ ap (λ (x : List Job). verdict_of before jobs x)
          (c.deref-5.ensures.value ∙ c.in_ok-counting.ensures ∙ ap (filter held) c.items.ensures);
    }
    ∙ ap (λ (ss : List Stand). planned_from holders ss waiting jobs) c.in_ok-auction.ensures
    ∙ ap (planned_from holders (stands_of c.args.cells.now) waiting) (c.deref-2.ensures.value ∙ c.in_ok-jobs.ensures)
