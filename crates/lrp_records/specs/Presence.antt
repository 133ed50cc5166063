-- The order of an instance's three rows.
use Rattle.std.specs.Prelude.{ℕ}
use Rattle.std.specs.Ordering.{nat_cmp, on}
use Rattle.std.specs.declared.cmp.Ordering.{Ordering}
use Rattle.lrp_records.specs.declared.presence.Presence.{Presence}
use Rattle.lrp_records.specs.declared.presence.Presence.TheVariants.{Ordinary, Evacuating, Suspect}

-- the place of a presence in its order
abbrev pub rank_of : Presence → ℕ
rank_of Ordinary = 0
rank_of Evacuating = 1
rank_of Suspect = 2

-- the ORDINARY row stands first, then the EVACUATING one, then the SUSPECT one
abbrev pub presence_order : Presence → Presence → Ordering
presence_order = on rank_of nat_cmp
