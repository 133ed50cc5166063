use Rattle.std.proofs.Common.{◌≡◌, ◌+◌, ap, ◌∙◌, arith, drop}
use Rattle.bbs_model.specs.declared.rows.Rows.{Rows}
use Rattle.event_laws.specs.Told.{after_events, after_all}
use Rattle.event_laws.proofs.Onward.{one_transition_more, next-after_events}
use Rattle.event_laws.proofs.following.follow.Goals as goal

pub go_on-requires : goal.go_on-requires
go_on-requires c = omega arith

pub loop-events-preserved : goal.loop-events-preserved
loop-events-preserved c =
    let told = c.args.told.now in
    let i = c.loop-events.events-index in
    let one = c.events-item.result in
    let new : c.go_on.new.rows ≡ after_events c.loop-events.new one = c.in_ok-go_on.ensures in
    let counted : c.go_on.new.rows.next ≡ c.loop-events.new.next + 1 =
    ap (λ (r : Rows). r.next) new ∙ next-after_events c.loop-events.new one in
    record {
      rest = ap (λ (r : Rows). after_all r (drop (i + 1) told)) new ∙ one_transition_more c.loop-events.new told i one
          c.loop-events-test.true c.events-item.is ∙ c.loop-events.invariant.rest;
      next = omega arith;
    }
