use Rattle.std.proofs.Common.{◌∙◌, ap, sym, arith}
use Rattle.std.specs.Option.{option_copied}
use Rattle.container_store.proofs.Runs.{all-begin, all-step, all-end}
use Rattle.container_store.proofs.Walks.{step_up}
use Rattle.container_store.proofs.store.Store.run_each.Goals as goal

pub loop-container-init : goal.loop-container-init
loop-container-init c = all-begin c.args.job.now c.args.self.now c.holds.ensures

pub loop-container-smaller : goal.loop-container-smaller
loop-container-smaller c =
    let s = c.loop-container.self in
    let up = step_up c.args.job.now s.epoch s.last c.loop-container.after s.containers c.in-Some.container.now
    c.holds-in-Some.ensures.given (sym c.in-Some.ensures) in
    omega (arith, up.0, up.1, c.holds-in-Some.ensures.fits)

pub loop-container-preserved : goal.loop-container-preserved
loop-container-preserved c =
    sym (all-step c.args.job.now c.loop-container.after c.loop-container.self c.run.new.self c.in-Some.container.now
    c.run.result c.holds-in-Some.ensures (sym c.in-Some.ensures) c.run.ensures)
    ∙ c.loop-container.invariant

pub returns : goal.returns
returns c =
    let none = sym c.next_in.ensures ∙ ap option_copied c.in_default.is in
    sym (all-end c.args.job.now c.loop-container.after c.loop-container.self none) ∙ c.loop-container.invariant
