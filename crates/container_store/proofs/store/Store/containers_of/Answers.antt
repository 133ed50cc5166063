use Rattle.std.proofs.Common.{◌∙◌, ◌++◌, ap, sym, filter, Some, [], ◌∷◌, arith}
use Rattle.std.specs.Option.{option_copied}
use Rattle.std.proofs.lemmas.List.{append-nil}
use Rattle.container_store.specs.Lookups.{is_later}
use Rattle.container_store.specs.Store.{number_of}
use Rattle.container_store.proofs.Walks.{filter-begin, filter-none, filter-step, step_up, add_behind}
use Rattle.container_store.proofs.store.Store.containers_of.Goals as goal

pub loop-container-init : goal.loop-container-init
loop-container-init c =
    let s = c.args.self.now in
    sym (filter-begin (Some c.args.job.now) s.epoch s.last s.containers c.holds.ensures.given)
    ∙ ap (λ xs. xs ++ filter (is_later (Some c.args.job.now) 0) s.containers) (sym c.new-list.ensures.items)

pub loop-container-smaller : goal.loop-container-smaller
loop-container-smaller c =
    let s = c.args.self.now in
    let up = step_up (Some c.args.job.now) s.epoch s.last c.loop-container.after s.containers c.in-Some.container.now
    c.holds.ensures.given (sym c.in-Some.ensures) in
    omega (arith, up.0, up.1, c.holds.ensures.fits)

pub loop-container-preserved : goal.loop-container-preserved
loop-container-preserved c =
    let s = c.args.self.now in
    let x = c.in-Some.container.now in
    let rest = filter (is_later (Some c.args.job.now) (number_of x)) s.containers in
    c.loop-container.invariant
    ∙ ap (λ xs. c.loop-container.list.items ++ xs) (filter-step
    (Some c.args.job.now) c.loop-container.after s.containers x c.holds.ensures.rising (sym c.in-Some.ensures))
    ∙ add_behind c.loop-container.list.items x rest
    ∙ ap (λ xs. xs ++ rest) (sym c.in_ok-push.ensures.items)

pub returns : goal.returns
returns c =
    let none = sym c.next_of.ensures ∙ ap option_copied c.in_default.is in
    let list = c.loop-container.list.items in
    sym (c.loop-container.invariant
    ∙ ap (λ xs. list ++ xs) (filter-none (is_later (Some c.args.job.now) c.loop-container.after)
    c.args.self.now.containers none)
    ∙ append-nil list)
