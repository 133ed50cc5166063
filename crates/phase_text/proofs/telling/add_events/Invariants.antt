use Rattle.std.proofs.Common.{◌≡◌, ◌++◌, take}
use Rattle.phase_text.specs.Texts.{events_words}
use Rattle.phase_text.proofs.telling.add_events.Given as goal

abbrev pub invariant-loop-event : goal.invariant-loop-event
invariant-loop-event l = l.text.items ≡ l.fn.text.items ++ events_words (take l.event-index l.events)
