use Rattle.std.proofs.Common.{◌∙◌, cond, ap, sym, filter, Some, arith}
use Rattle.std.specs.List.{find}
use Rattle.std.specs.Option.{option_copied}
use Rattle.container_store.specs.Changes.{is_uncompleted}
use Rattle.container_store.specs.Jobs.{is_same_job}
use Rattle.container_store.specs.Lookups.{is_later}
use Rattle.container_store.specs.Store.{number_of}
use Rattle.container_store.proofs.Walks.{find-filter, filter-begin, filter-none, filter-step, step_up}
use Rattle.container_store.proofs.store.Store.uncompleted_of.Goals as goal

pub loop-container-init : goal.loop-container-init
loop-container-init c =
    let s = c.args.self.now in
    find-filter (λ x. is_uncompleted x.state) (λ x. is_same_job c.args.job.now x.job) s.containers
    ∙ ap (find (λ x. is_uncompleted x.state)) (sym (filter-begin
    (Some c.args.job.now) s.epoch s.last s.containers c.holds.ensures.given))

pub returns-then-is_uncompleted : goal.returns-then-is_uncompleted
returns-then-is_uncompleted c =
    let s = c.args.self.now in
    let x = c.in-Some.container.now in
    let rest = filter (is_later (Some c.args.job.now) (number_of x)) s.containers in
    sym (c.loop-container.invariant
    ∙ ap (find (λ y. is_uncompleted y.state)) (filter-step
    (Some c.args.job.now) c.loop-container.after s.containers x c.holds.ensures.rising (sym c.in-Some.ensures))
    ∙ ap (λ b. cond b (Some x) (find (λ y. is_uncompleted y.state) rest))
    (sym c.is_uncompleted.ensures ∙ c.if-is_uncompleted.true))

pub loop-container-smaller : goal.loop-container-smaller
loop-container-smaller c =
    let s = c.args.self.now in
    let up = step_up (Some c.args.job.now) s.epoch s.last c.loop-container.after s.containers c.in-Some.container.now
    c.holds.ensures.given (sym c.in-Some.ensures) in
    omega (arith, up.0, up.1, c.holds.ensures.fits)

pub loop-container-preserved : goal.loop-container-preserved
loop-container-preserved c =
    let s = c.args.self.now in
    let x = c.in-Some.container.now in
    let rest = filter (is_later (Some c.args.job.now) (number_of x)) s.containers in
    c.loop-container.invariant
    ∙ ap (find (λ y. is_uncompleted y.state)) (filter-step
    (Some c.args.job.now) c.loop-container.after s.containers x c.holds.ensures.rising (sym c.in-Some.ensures))
    ∙ ap (λ b. cond b (Some x) (find (λ y. is_uncompleted y.state) rest))
    (sym c.is_uncompleted.ensures ∙ c.if-is_uncompleted.false)

pub returns : goal.returns
returns c =
    let none = sym c.next_of.ensures ∙ ap option_copied c.in_default.is in
    sym (c.loop-container.invariant
    ∙ ap (find (λ y. is_uncompleted y.state)) (filter-none
    (is_later (Some c.args.job.now) c.loop-container.after) c.args.self.now.containers none))
