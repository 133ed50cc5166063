use Rattle.std.proofs.Common.{◌∙◌, ap}
use Rattle.std.specs.Option.{option_copied}
use Rattle.container_store.proofs.Held.{next-none, next-some}
use Rattle.container_store.proofs.store.Store.next.Goals as goal

pub returns-in_err-container : goal.returns-in_err-container
returns-in_err-container c =
    ap option_copied c.from_residual.ensures
    ∙ next-none c.self.inside c.self.invariant c.args.self.now c.self.view_is c.args.after c.range.result
    (c.range.ensures.in_range tt) c.in_err-container.ensures.steps.0

pub returns : goal.returns
returns c =
    next-some c.self.inside c.self.invariant c.args.self.now c.self.view_is c.args.after c.range.result
    (c.range.ensures.in_range tt) _ _ c.in_ok-container.ensures.steps
