use Rattle.std.proofs.Common.{◌≡◌, ◌+◌, drop}
use Rattle.event_laws.specs.Told.{after_all}
use Rattle.event_laws.proofs.following.follow.Given as goal

abbrev pub invariant-loop-events : goal.invariant-loop-events
invariant-loop-events l = record {
  rest : after_all l.new (drop l.events-index l.told) ≡ after_all l.rows l.told;
  next : l.new.next ≡ l.rows.next + l.events-index;
}
