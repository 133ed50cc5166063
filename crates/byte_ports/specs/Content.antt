-- What taking and putting do to the bytes that a port tells.
use Rattle.std.specs.Prelude.{◌≡◌, ℕ, ◌<◌, ◌≤◌, List, ◌++◌, length, Option, Result, IfOk}
use Rattle.std.specs.Io.KnownBytes.{Appends, Consumes}

-- of a piece that isn't empty, at least one byte went
abbrev pub TakesSome : {E : Type 0} → Result ℕ E → List ℕ → Type 0
TakesSome result piece = IfOk result (λ n. 0 < length piece → 0 < n)

-- n bytes were taken from the front of those left
abbrev pub Lost : Option (List ℕ) → Option (List ℕ) → ℕ → Type 0
Lost old new n = (bytes : List ℕ) × (length bytes ≡ n) × Consumes old new bytes

-- at most n bytes were taken from the front of those left
abbrev pub LostAtMost : Option (List ℕ) → Option (List ℕ) → ℕ → Type 0
LostAtMost old new n = (bytes : List ℕ) × (length bytes ≤ n) × Consumes old new bytes

-- a front of the text was appended
abbrev pub HoldsFront : Option (List ℕ) → Option (List ℕ) → List ℕ → Type 0
HoldsFront old new text =
    (front : List ℕ) × (rest : List ℕ) × (text ≡ front ++ rest) × Appends old new front

-- a front of the text was appended, and not the whole of it
abbrev pub HoldsPart : Option (List ℕ) → Option (List ℕ) → List ℕ → Type 0
HoldsPart old new text =
    (front : List ℕ) × (rest : List ℕ) × (text ≡ front ++ rest) × (0 < length rest)
    × Appends old new front
