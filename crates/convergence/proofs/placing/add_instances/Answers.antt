use Rattle.std.proofs.Common.{ℕ, ◌∙◌}
use Rattle.lrp_records.specs.declared.presence.Presence.TheVariants.{Ordinary}
use Rattle.convergence.proofs.Lists.{made_more}
use Rattle.convergence.proofs.placing.add_instances.Goals as goal

pub loop-index-preserved : goal.loop-index-preserved
loop-index-preserved c =
    c.in_ok-push.ensures.items
    ∙ made_more (λ (i : ℕ). (record { process = c.args.desired.now.process; index = i }, Ordinary)) c.args.all.now.items
    c.loop-index.all.items c.loop-index.index c.loop-index.invariant
