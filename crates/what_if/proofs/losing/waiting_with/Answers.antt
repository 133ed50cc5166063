use Rattle.std.proofs.Common.{◌≡◌, ◌≤◌, ◌^◌, List, ◌++◌, length, map, filter, not, ap, subst, sym, ◌∙◌}
use Rattle.std.specs.List.Sorted.{IsPermutation}
use Rattle.std.proofs.lemmas.List.Sorted.{length_permutation}
use Rattle.cell_records.specs.declared.job.Job.{Job}
use Rattle.what_if.specs.Waiting.{does_wait, instance_job, waits}
use Rattle.what_if.specs.declared.site.Wanted.{Wanted}
use Rattle.what_if.proofs.Awaiting.{waits_both, waits_in_all}
use Rattle.what_if.proofs.Reordered.{jobs-reordered}
use Rattle.what_if.proofs.losing.waiting_with.Goals as goal

pub returns-clause-same : goal.returns-clause-same
returns-clause-same c =
    subst (IsPermutation (waits c.args.base.now.site.now c.args.lost.now))
    (sym (c.in_ok-jobs.ensures
    ∙ ap (λ (js : List Job). js ++ map instance_job (filter (λ (w : Wanted). not w.crashed) c.args.taken.now))
    c.requires.base.waiting))
    (waits_both c.args.base.now.site.now c.args.lost.now c.args.taken.now c.requires.taken)

pub returns-clause-apart : goal.returns-clause-apart
returns-clause-apart c =
    jobs-reordered (waits c.args.base.now.site.now c.args.lost.now) c.in_ok-jobs.jobs.items (returns-clause-same c)
    (c.requires.base.sound.jobs (does_wait c.args.base.now.site.now c.args.lost.now))

pub returns-clause-few : goal.returns-clause-few
returns-clause-few c =
    subst (λ n. n ≤ 2 ^ 32)
    (sym (length_permutation (waits c.args.base.now.site.now c.args.lost.now) c.in_ok-jobs.jobs.items
    (returns-clause-same c)))
    (waits_in_all c.args.base.now.site.now c.args.lost.now c.requires.base.sound)
