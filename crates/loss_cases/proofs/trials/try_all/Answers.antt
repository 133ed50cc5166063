use Rattle.std.proofs.Common.{◌+◌, List, ◌++◌, drop, sym, ap, ◌∙◌}
use Rattle.std.specs.Option.{option_or}
use Rattle.cell_records.specs.declared.job.Job.{Job}
use Rattle.auctioneer.specs.Auction.{auction_from}
use Rattle.auctioneer.specs.declared.stand.Stand.{Stand}
use Rattle.what_if.specs.Plans.{jobs_left, left_over, stands_from}
use Rattle.what_if.proofs.Lists.{drop_next}
use Rattle.loss_cases.specs.Fits.{first_of, told_at}
use Rattle.loss_cases.proofs.Tries.{few_next, first_next, left_next, placed_next}
use Rattle.loss_cases.proofs.trials.try_all.Goals as goal

pub loop-job-preserved : goal.loop-job-preserved
loop-job-preserved c =
    let field = c.args.field.now in
    let jobs = field.jobs.now in
    let i = c.loop-job.job-index in
    let job = c.job-item.result in
    let stands = c.loop-job.auction in
    let next = c.try_one.new.auction in
    let old = c.loop-job.trial in
    let new = c.try_one.new.trial in
    let rest = drop (i + 1) jobs in
    let here = sym (drop_next jobs i job c.loop-job-test.true c.job-item.is) in
    let one = c.in_ok-try_one.ensures.tried in
    let stood = c.in_ok-try_one.ensures.stands in
    let tell = told_at field.before.now jobs in
    record {
      placements =
          placed_next stands next job rest old.placements new.placements stood one.placements
          ∙ ap (λ (js : List Job). old.placements ++ auction_from stands js) here
          ∙ c.loop-job.invariant.placements;
      left =
          left_next (λ turn j. j) stands next job rest old.left new.left stood one.left
          ∙ ap (λ (js : List Job). old.left ++ jobs_left stands js) here
          ∙ c.loop-job.invariant.left;
      first =
          first_next tell stands next job rest old.first new.first stood one.first
          ∙ ap (λ (js : List Job). option_or old.first (first_of (left_over tell stands js))) here
          ∙ c.loop-job.invariant.first;
      stands =
          ap (λ (ss : List Stand). stands_from ss rest) stood
          ∙ ap (stands_from stands) here
          ∙ c.loop-job.invariant.stands;
      few = few_next stands next job stood c.loop-job.invariant.few;
    }
