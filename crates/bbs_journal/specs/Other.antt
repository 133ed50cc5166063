-- The area beside the one that holds the frames: a reader passes it over.
use Rattle.std.specs.Prelude.{◌≡◌, ◌⊎◌, ℕ, ◌<◌, ◌≤◌, List, [], ◌∷◌, length, take}
use Rattle.bbs_journal.specs.Areas.{Begins}
use Rattle.bbs_journal.specs.Header.{behind_gate}
use Rattle.bbs_journal.specs.declared.header.Header.TheVariants.{Open}
use Rattle.bbs_journal.specs.declared.other_gate.OtherGate.{OtherGate}
use Rattle.bbs_journal.specs.declared.other_gate.OtherGate.TheVariants.{Shut, Loose, Written}

-- behind its gate, open or closed, stands the header of an older generation, in whichever version
pub record IsOlder (generation : ℕ) (bytes : List ℕ) : Type 0 where
  pub gate : ℕ
  pub behind : List ℕ
  pub version : ℕ
  pub older : ℕ
  pub parts : bytes ≡ gate ∷ behind
  pub header : behind_gate (take 30 behind) ≡ Open version older
  pub below : older < generation

-- no byte for a gate, or that one alone, or an older header
abbrev pub IsLoose : ℕ → List ℕ → Type 0
IsLoose generation bytes = (length bytes ≤ 1) ⊎ IsOlder generation bytes

-- an area with such a gate gives way to one of this generation
abbrev pub Yields : OtherGate → ℕ → List ℕ → Type 0
Yields Shut generation bytes = Begins (0 ∷ []) bytes
Yields Loose generation bytes = IsLoose generation bytes
Yields (Written size) generation bytes = Begins (0 ∷ []) bytes
