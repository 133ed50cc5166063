use Rattle.std.proofs.Common.{◌∙◌}
use Rattle.container_store.proofs.Held.{find-held, find-other}
use Rattle.container_store.proofs.store.Store.find.Goals as goal

pub returns-then-instance-self : goal.returns-then-instance-self
returns-then-instance-self c =
    find-other c.self.inside c.self.invariant c.args.self.now c.self.view_is c.args.instance.now c.if-instance-self.true

pub returns : goal.returns
returns c =
    c.get.ensures.value
    ∙ find-held c.self.inside c.self.invariant c.args.self.now c.self.view_is c.args.instance.now
    c.if-instance-self.false
