-- Which calls of the system a device call makes.
use Rattle.std.specs.Prelude.{◌≡◌, ℕ, ◌-◌, ◌^◌, ◌<◌, ◌≤◌, Bool, true, false, not, ◌||◌, List, [], ◌∷◌, ◌++◌}
use Rattle.std.specs.List.{list_all}
use Rattle.disk_trait.specs.declared.area.Area.{Area}
use Rattle.file_calls.specs.Call.{Call, began, means, measured, read, written, named, flushed}
use Rattle.file_calls.specs.Files.{same_area}

-- asking the length of this file
abbrev pub measures : Area → Call → Bool
measures area (measured here ok count) = same_area area here
measures area call = false

-- reading this file
abbrev pub reads : Area → Call → Bool
reads area (read here at ok bytes) = same_area area here
reads area call = false

-- writing this file, or announcing that
abbrev pub writes : Area → Call → Bool
writes area (means here at len) = same_area area here
writes area (written here at ok bytes) = same_area area here
writes area call = false

-- syncing the name of a file
abbrev pub is_naming : Call → Bool
is_naming (named here ok) = true
is_naming call = false

-- syncing this file, or the name of one
abbrev pub syncs : Area → Call → Bool
syncs area (named here ok) = true
syncs area (flushed here ok) = same_area area here
syncs area call = false

-- in this device call the file was synced, whatever the answer
abbrev pub was_synced : Area → List Call → Bool
was_synced area [] = false
was_synced area (began ∷ earlier) = false
was_synced area (flushed here ok ∷ earlier) = same_area area here || was_synced area earlier
was_synced area (call ∷ earlier) = was_synced area earlier

-- the call was refused, or interrupted
abbrev pub refuses : Call → Bool
refuses (measured area ok count) = not ok
refuses (read area at ok bytes) = not ok
refuses (written area at ok bytes) = not ok
refuses (named area ok) = not ok
refuses (flushed area ok) = not ok
refuses call = false

-- the newest call was
abbrev pub ends_refused : List Call → Bool
ends_refused [] = false
ends_refused (call ∷ earlier) = refuses call

-- calls of this kind were made, and no others
abbrev pub AddsCalls : (Call → Bool) → List Call → List Call → Type 0
AddsCalls kind old new = (calls : List Call) × (new ≡ calls ++ old) × (list_all kind calls ≡ true)

-- what a device call has done at this moment: it has begun, and made calls of this kind alone. It fails
-- only where the newest of them was refused, or where the clock is at its last value, and no call is made
pub record Made (kind : Call → Bool) (failed : Bool) (moment : ℕ) (old new : List Call) : Type 0 where
  pub calls : moment < 2 ^ 64 - 1 → AddsCalls kind (began ∷ old) new
  pub refused : moment < 2 ^ 64 - 1 → failed ≡ true → ends_refused new ≡ true
  pub none : 2 ^ 64 - 1 ≤ moment → new ≡ old
