-- Where an actual row stands among all of them.
use Rattle.std.specs.Ordering.{on, then_cmp}
use Rattle.std.specs.declared.cmp.Ordering.{Ordering}
use Rattle.diego_names.specs.Key.{key_order}
use Rattle.diego_names.specs.declared.key.Key.{Key}
use Rattle.lrp_records.specs.Presence.{presence_order}
use Rattle.lrp_records.specs.declared.actual.Actual.{Actual}
use Rattle.lrp_records.specs.declared.presence.Presence.{Presence}

-- the key of its instance, and which of the instance's three rows it is
abbrev pub place_of : Actual → Key × Presence
place_of row = (row.key, row.presence)

-- by key, then ORDINARY, EVACUATING, SUSPECT
abbrev pub place_order : Key × Presence → Key × Presence → Ordering
place_order = then_cmp (on (λ p. p.0) key_order) (on (λ p. p.1) presence_order)
