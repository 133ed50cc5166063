use Rattle.std.proofs.Common.{◌∙◌, ap}
use Rattle.locket.specs.Opening.{next_of}
use Rattle.locket.proofs.Payloads.{counted_next}
use Rattle.locket.proofs.following.follow_payload.Goals as goal

pub returns-in-Some-clause-counted : goal.returns-in-Some-clause-counted
returns-in-Some-clause-counted c = counted_next c.args.state.now c.in-Some.command c.next_of.result c.requires
    (c.next_of.ensures ∙ ap next_of c.step.ensures)
