-- The answers that files give which behave as the model says.
use Rattle.std.specs.Prelude.{ℕ, Bool, true, false, not, ◌&&◌, ◌||◌, ◌==◌, nat_le, nat_lt, bytes_eq, List, [], ◌∷◌, length, take, drop}
use Rattle.disk_trait.specs.declared.area.Area.{Area}
use Rattle.file_calls.specs.Call.{Call, measured, read, named, flushed}
use Rattle.file_calls.specs.Files.{First, same_area, held_by}

-- a sync of the file's name was refused
abbrev pub refuses_name : Area → Call → Bool
refuses_name area (named here ok) = same_area area here && not ok
refuses_name area call = false

-- a sync of the file was refused
abbrev pub refuses_sync : Area → Call → Bool
refuses_sync area (flushed here ok) = same_area area here && not ok
refuses_sync area call = false

-- a call before was of this kind
abbrev pub any_call : (Call → Bool) → List Call → Bool
any_call test [] = false
any_call test (call ∷ earlier) = test call || any_call test earlier

-- a read from here on of a file that reads so gives these bytes: fewer than there was room for, maybe,
-- and none only at the end
abbrev pub gives : List ℕ → ℕ → List ℕ → Bool
gives reads at bytes =
    bytes_eq (take (length bytes) (drop at reads)) bytes && (nat_lt 0 (length bytes) || nat_le (length reads) at)

-- the answer agrees with what the calls before it say. Any call may be refused. After a sync that was
-- refused none is believed, since the system may have dropped what it had to write
abbrev pub agrees : First → Call → List Call → Bool
agrees first (measured area ok count) earlier = not ok || count == length (held_by first area earlier).reads
agrees first (read area at ok bytes) earlier = not ok || gives (held_by first area earlier).reads at bytes
agrees first (named area ok) earlier = not ok || not (any_call (refuses_name area) earlier)
agrees first (flushed area ok) earlier = not ok || not (any_call (refuses_sync area) earlier)
agrees first call earlier = true

-- the premise: each answer so far is one that a disk gives
abbrev pub is_honest : First → List Call → Bool
is_honest first [] = true
is_honest first (call ∷ earlier) = agrees first call earlier && is_honest first earlier
