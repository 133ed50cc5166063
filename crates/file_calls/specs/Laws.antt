-- Which answers are believed, and which silence the disk.
use Rattle.std.specs.Prelude.{◌≡◌, ◌≢◌, ℕ, ◌-◌, ◌<◌, ◌≤◌, Bool, true, false, List, [], ◌∷◌, length, take, drop}
use Rattle.disk_trait.specs.declared.area.Area.{Area}
use Rattle.file_calls.specs.Call.{Call, began, means, measured, read, written, named, flushed}
use Rattle.file_calls.specs.Files.{First, held_by}
use Rattle.file_calls.specs.Honest.{refuses_name, refuses_sync, any_call, is_honest}
use Rattle.file_calls.specs.Made.{refuses}

-- with this call after them the record is honest, or isn't
abbrev pub After : First → List Call → Call → Bool → Type 0
After first history call ok = is_honest first (call ∷ history) ≡ ok

-- what a read of the file gives after these calls
abbrev pub bytes_read : First → List Call → Area → List ℕ
bytes_read first history area = (held_by first area history).reads

-- after these calls an answer of the model is believed, and a refusal of any call too
pub record Believes (first : First) (history : List Call) : Type 0 where
  pub began_is : After first history began true
  pub means_is : (area : Area) (at len : ℕ) → After first history (means area at len) true
  pub lengths : (area : Area) → After first history (measured area true (length (bytes_read first history area))) true
  pub bytes : (area : Area) (at count : ℕ) → count ≤ length (bytes_read first history area) - at
      → (count ≡ 0 → length (bytes_read first history area) ≤ at)
      → After first history (read area at true (take count (drop at (bytes_read first history area)))) true
  pub writes : (area : Area) (at : ℕ) (bytes : List ℕ) → After first history (written area at true bytes) true
  pub names : (area : Area) → any_call (refuses_name area) history ≡ false → After first history (named area true) true
  pub syncs : (area : Area) → any_call (refuses_sync area) history ≡ false → After first history (flushed area true) true
  pub refusals : (call : Call) → refuses call ≡ true → After first history call true

-- another length, other bytes, an end before the end, and a sync after one that was refused are not, and
-- after the first such answer nothing is
pub record Doubts (first : First) (history : List Call) : Type 0 where
  pub lengths : (area : Area) (len : ℕ) → len ≢ length (bytes_read first history area)
      → After first history (measured area true len) false
  pub bytes : (area : Area) (at : ℕ) (bytes : List ℕ) → take (length bytes) (drop at (bytes_read first history area)) ≢ bytes
      → After first history (read area at true bytes) false
  pub ends : (area : Area) (at : ℕ) → at < length (bytes_read first history area)
      → After first history (read area at true []) false
  pub names : (area : Area) → any_call (refuses_name area) history ≡ true → After first history (named area true) false
  pub syncs : (area : Area) → any_call (refuses_sync area) history ≡ true → After first history (flushed area true) false
  pub later : is_honest first history ≡ false → (call : Call) → After first history call false
