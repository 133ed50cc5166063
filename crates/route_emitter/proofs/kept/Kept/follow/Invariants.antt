use Rattle.std.proofs.Common.{◌≡◌, ◌+◌, ◌≤◌, length, drop}
use Rattle.route_emitter.specs.Keeping.{desired_after, running_after}
use Rattle.route_emitter.proofs.kept.Kept.follow.Given as goal

abbrev pub invariant-loop-event : goal.invariant-loop-event
invariant-loop-event l = record {
  desired : desired_after (drop l.event-index l.events) l.self.desired ≡ desired_after l.events l.fn.self.desired;
  running : running_after (drop l.event-index l.events) l.self.running ≡ running_after l.events l.fn.self.running;
  room : length l.events ≤ l.self.spare + l.event-index;
}
