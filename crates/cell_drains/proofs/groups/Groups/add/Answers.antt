use Rattle.std.proofs.Common.{List, [], ◌∷◌, ◌++◌, cond, ap, ◌∙◌}
use Rattle.cell_records.specs.declared.job.Job.{Job}
use Rattle.auctioneer.specs.Stands.{same_name}
use Rattle.cell_drains.specs.Changes.{jobs_by}
use Rattle.cell_drains.proofs.Grouping.{one_behind}
use Rattle.cell_drains.proofs.groups.Groups.add.Goals as goal

pub returns : goal.returns
returns c = λ other.
    let cell = c.args.cell.now in
    let job = c.args.job.now in
    let old = c.args.self.now in
    c.in_ok-put.ensures other
    ∙ ap (λ (js : List Job). cond (same_name cell other) js (jobs_by c.take-jobs.new.self other))
    (c.in_ok-push_job.ensures ∙ ap (λ (js : List Job). js ++ job ∷ []) c.take-jobs.ensures.taken)
    ∙ ap (λ (js : List Job). cond (same_name cell other) (jobs_by old cell ++ job ∷ []) js)
    (c.take-jobs.ensures.rest other)
    ∙ one_behind (jobs_by old) cell other job
