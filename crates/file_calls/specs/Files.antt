-- What two files hold, read off what they held at first and the record of the calls since.
use Rattle.std.specs.Prelude.{ℕ, ◌+◌, ◌<◌, Bool, true, false, ◌&&◌, ◌||◌, nat_le, nat_lt, if◌then◌else◌, List, [], ◌∷◌, length, refl}
use Rattle.std.specs.List.{list_all}
use Rattle.std.proofs.lemmas.List.Elements.{All-nil}
use Rattle.disk_trait.specs.Held.{Held, Range, Leaves}
use Rattle.disk_trait.specs.Steps.{pend, settle, overwritten}
use Rattle.disk_trait.specs.declared.area.Area.{Area}
use Rattle.disk_trait.specs.declared.area.Area.TheVariants.{A, B}
use Rattle.file_calls.specs.Call.{Call, began, means, written, named, flushed}

-- what each file held at the first call, and what a stop could have left of it then
pub record First : Type 0 where
  pub held : Area → Held
  pub possible : (area : Area) → Leaves (held area) (held area).reads

-- this is the area
abbrev pub same_area : Area → Area → Bool
same_area A A = true
same_area A B = false
same_area B A = false
same_area B B = true

-- the newest range that a write was announced for has this one in it
abbrev pub is_announced : List Range → ℕ → ℕ → Bool
is_announced [] at len = false
is_announced (range ∷ ranges) at len = nat_le range.from at && nat_le (at + len) (range.from + range.len)

-- these bytes may be written here: they were announced, and begin where the file has an end or a byte
abbrev pub is_ready : Held → ℕ → List ℕ → Bool
is_ready held at bytes =
    nat_le at (length held.reads) && is_announced held.pending at (length bytes) && list_all (λ b. nat_lt b 256) bytes

-- the file with these bytes over it. A write that wasn't announced is none of the disk's
abbrev pub put : Held → ℕ → List ℕ → Held
put held at bytes = if is_ready held at bytes then record held { reads = overwritten at bytes held.reads } else held

-- the call put the file's name on the disk
abbrev pub names : Area → Call → Bool
names area (named here ok) = same_area area here && ok
names area call = false

-- one of these calls put the file's name on the disk
abbrev pub has_its_name : Area → List Call → Bool
has_its_name area [] = false
has_its_name area (call ∷ earlier) = names area call || has_its_name area earlier

-- a call's effect. A range that was announced is pending, a write that was refused leaves what a read
-- gives, and a sync settles a file whose name is on the disk
abbrev pub held_after_call : Area → Call → Bool → Held → Held
held_after_call area (means here at len) has_name held =
    if same_area area here then pend held (record { from = at; len = len }) held.reads else held
held_after_call area (written here at ok bytes) has_name held = if same_area area here && ok then put held at bytes else held
held_after_call area (flushed here ok) has_name held = if same_area area here && ok && has_name then settle held else held
held_after_call area call has_name held = held

-- what the file holds after these calls
abbrev pub held_by : First → Area → List Call → Held
held_by first area [] = first.held area
held_by first area (call ∷ earlier) = held_after_call area call (has_its_name area earlier) (held_by first area earlier)

-- a device call begins with a call of its own in the record
abbrev pub tick : Call → ℕ
tick began = 1
tick call = 0

-- how many device calls have begun
abbrev pub ticks : List Call → ℕ
ticks [] = 0
ticks (call ∷ earlier) = ticks earlier + tick call

-- the calls of the first so many device calls
abbrev pub up_to : ℕ → List Call → List Call
up_to moment [] = []
up_to moment (call ∷ earlier) =
    if nat_le (ticks earlier + tick call) moment then call ∷ earlier else up_to moment earlier

-- two files of no bytes
abbrev pub blank : First
blank = record {
  held = λ area. record { reads = []; synced = []; pending = [] };
  possible = λ area. record { torn = refl; bytes = All-nil (λ b. b < 256) };
}
