use Rattle.std.proofs.Common.{◌∙◌, ap, sym, subst}
use Rattle.std.specs.BTreeSet.{IsKeyRangeOf}
use Rattle.std.specs.Option.{option_copied}
use Rattle.std.specs.declared.ops.Bound.TheVariants.{Excluded, Unbounded}
use Rattle.container_store.specs.Entries.{entry_order, job_entry}
use Rattle.container_store.specs.declared.entries.JobEntry.{JobEntry}
use Rattle.container_store.proofs.Held.{next_of-none, next_of-some, next_of-other}
use Rattle.container_store.proofs.store.Store.next_of.Goals as goal

pub returns-in_err-entry : goal.returns-in_err-entry
returns-in_err-entry c =
    let range : IsKeyRangeOf entry_order (Excluded (job_entry c.args.job.now c.args.after)) Unbounded c.self.inside.jobs
    c.range.result =
    subst (λ (lo : JobEntry). IsKeyRangeOf entry_order (Excluded lo) Unbounded c.self.inside.jobs c.range.result)
    c.job_entry.ensures (c.range.ensures.in_range tt) in
    ap option_copied c.from_residual.ensures
    ∙ next_of-none c.self.inside c.self.invariant c.args.self.now c.self.view_is c.args.job.now c.args.after
    c.range.result range c.in_err-entry.ensures.steps.0

pub returns-then-is_same_job : goal.returns-then-is_same_job
returns-then-is_same_job c =
    let range : IsKeyRangeOf entry_order (Excluded (job_entry c.args.job.now c.args.after)) Unbounded c.self.inside.jobs
    c.range.result =
    subst (λ (lo : JobEntry). IsKeyRangeOf entry_order (Excluded lo) Unbounded c.self.inside.jobs c.range.result)
    c.job_entry.ensures (c.range.ensures.in_range tt) in
    next_of-some c.self.inside c.self.invariant c.args.self.now c.self.view_is c.args.job.now c.args.after
    c.range.result range
    c.in_ok-entry.entry.now c.next.new.self c.in_ok-entry.ensures.steps c.in_ok-container.container.now
    (sym c.in_ok-container.ensures.value)
    (sym c.is_same_job.ensures ∙ c.if-is_same_job.true)

pub returns-else-is_same_job : goal.returns-else-is_same_job
returns-else-is_same_job c =
    let range : IsKeyRangeOf entry_order (Excluded (job_entry c.args.job.now c.args.after)) Unbounded c.self.inside.jobs
    c.range.result =
    subst (λ (lo : JobEntry). IsKeyRangeOf entry_order (Excluded lo) Unbounded c.self.inside.jobs c.range.result)
    c.job_entry.ensures (c.range.ensures.in_range tt) in
    next_of-other c.self.inside c.self.invariant c.args.self.now c.self.view_is c.args.job.now c.args.after
    c.range.result range
    c.in_ok-entry.entry.now c.next.new.self c.in_ok-entry.ensures.steps c.in_ok-container.container.now
    (sym c.in_ok-container.ensures.value)
    (sym c.is_same_job.ensures ∙ c.if-is_same_job.false)
