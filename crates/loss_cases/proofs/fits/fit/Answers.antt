use Rattle.std.proofs.Common.{ℕ, ◌<◌, ◌^◌, List, [], length, sym, ap, subst, ◌∙◌}
use Rattle.cell_records.specs.declared.job.Job.{Job}
use Rattle.auctioneer.specs.Stands.{stands_of}
use Rattle.auctioneer.specs.declared.stand.Stand.{Stand}
use Rattle.what_if.specs.Plans.{stands_before}
use Rattle.loss_cases.specs.Fits.{fitted_on, job_more, jobs_more, next_index}
use Rattle.loss_cases.proofs.Growing.{jobs_counted}
use Rattle.loss_cases.proofs.fits.fit.Goals as goal

pub fitted_on-requires-clause-jobs : goal.fitted_on-requires-clause-jobs
fitted_on-requires-clause-jobs c =
    let job : ℕ → Job = job_more c.args.process c.args.proxy c.args.demand in
    subst (λ (n : ℕ). n < 2 ^ 32)
    (sym (ap length (c.deref-3.ensures.value ∙ c.in_ok-jobs.ensures) ∙ jobs_counted job c.next_index-first.result
    c.args.instances))
    c.ranges.instances.fits

pub returns : goal.returns
returns c =
    let site = c.args.site.now in
    let job : ℕ → Job = job_more c.args.process c.args.proxy c.args.demand in
    let cells = c.deref.ensures.value ∙ c.in_ok-cells.ensures.value in
    let before = c.stands.ensures ∙ c.in_ok-before.ensures ∙ ap stands_of cells in
    let first = c.next_index-first.ensures.value ∙ ap (next_index c.args.process) c.items.ensures in
    let jobs = c.deref-3.ensures.value ∙ c.in_ok-jobs.ensures ∙ ap
    (λ (n : ℕ). jobs_more job n c.args.instances) first in
    c.in_ok-fitted.ensures
    ∙ ap (λ (ss : List Stand). fitted_on ss c.job_more-size.result c.deref-3.result.now) before
    ∙ ap (λ (j : Job). fitted_on (stands_before site []) j c.deref-3.result.now) c.job_more-size.ensures
    ∙ ap (λ (js : List Job). fitted_on (stands_before site []) (job 0) js) jobs
