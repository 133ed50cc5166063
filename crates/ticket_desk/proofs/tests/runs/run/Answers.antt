-- Each turn leaves the pass a pass of its desk.
use Rattle.std.proofs.Common.{◌∙◌}
use Rattle.ticket_desk.proofs.Public.{same_pass, same_then}
use Rattle.ticket_desk.proofs.tests.runs.run.Goals as goal

pub loop-value-init : goal.loop-value-init
loop-value-init g c = same_pass c.args.pass.now

pub append-requires : goal.append-requires
append-requires g c = c.loop-value.invariant.desk ∙ c.requires

pub loop-value-preserved : goal.loop-value-preserved
loop-value-preserved g c = same_then _ _ _ c.loop-value.invariant c.append.ensures

pub returns : goal.returns
returns g c = c.loop-value.invariant
