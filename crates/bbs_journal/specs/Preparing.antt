-- What preparing a disk for its first frame does.
use Rattle.std.specs.Prelude.{◌≡◌, ◌≢◌, ◌⊎◌, ◌≤◌, max, List, ℕ, Bool, true, false, None, [], ◌∷◌, ◌++◌, length, Result, Ok, Err}
use Rattle.disk_trait.specs.Held.{Held, Leaves}
use Rattle.disk_trait.specs.Past.{Past, now, content, IsSettled}
use Rattle.disk_trait.specs.Runs.{Extends, Runs}
use Rattle.disk_trait.specs.declared.area.Area.TheVariants.{A, B}
use Rattle.bbs_journal.specs.Opening.{IsOpening}
use Rattle.disk_trait.specs.Shows.{Peeks}
use Rattle.bbs_journal.specs.declared.preparing.PrepareFault.{PrepareFault}
use Rattle.bbs_journal.specs.declared.preparing.PrepareFault.TheVariants.{Disk, NotEmpty}

-- an open header gate, the magic, version 2, generation 1, and a head of 28 zero bytes
abbrev pub first_head : List ℕ
first_head =
    1 ∷ 68 ∷ 73 ∷ 69 ∷ 71 ∷ 79 ∷ 66 ∷ 66 ∷ 83 ∷ 0 ∷ 2 ∷ 0 ∷ 0 ∷ 0 ∷ 0 ∷ 0 ∷ 0 ∷ 0 ∷ 1 ∷ 0 ∷ 0 ∷ 0 ∷ 28
    ∷ 0 ∷ 0 ∷ 0 ∷ 0 ∷ 0 ∷ 0 ∷ 0 ∷ 0 ∷ 0 ∷ 0 ∷ 0 ∷ 0 ∷ 0 ∷ 0 ∷ 0 ∷ 0 ∷ 0 ∷ 0 ∷ 0 ∷ 0 ∷ 0 ∷ 0 ∷ 0 ∷ 0 ∷ 0 ∷ 0 ∷ 0 ∷ 0 ∷ []

-- both areas were empty; now the first is that head and a closed gate, and a stop leaves what a read gives
pub record Prepares (p q : Past) : Type 0 where
  pub extends : Extends p q
  pub a_was : content p A ≡ []
  pub b_was : content p B ≡ []
  pub a : content q A ≡ first_head ++ 0 ∷ []
  pub b : content q B ≡ []
  pub settled : IsSettled q

-- an area isn't empty, and both were only looked at
pub record FindsBytes (p q : Past) : Type 0 where
  pub peeks : Peeks p q
  pub bytes : (content p A ≢ []) ⊎ (content p B ≢ [])

-- no longer than 52 bytes, or than something that a stop could leave of the area before
pub record IsShort (before : Held) (left : List ℕ) : Type 0 where
  pub older : List ℕ
  pub could : Leaves before older
  pub short : length left ≤ max (length older) 52

-- both areas were empty; all the while a stop leaves no more than 52 bytes of the first and changes nothing of the
-- second, and a read gives no more of the first
pub record PreparesInPart (p q : Past) : Type 0 where
  pub a_was : content p A ≡ []
  pub b_was : content p B ≡ []
  pub runs : Runs A (IsShort (now p A)) p q
  pub a : length (content q A) ≤ 52
  pub b : content q B ≡ []

-- what a prepare did, by its answer; where the disk failed, it had only looked, or both areas were empty
abbrev pub PreparesBy : Result (Unit {0}) PrepareFault → Past → Past → Type 0
PreparesBy (Ok x) p q = Prepares p q
PreparesBy (Err NotEmpty) p q = FindsBytes p q
PreparesBy (Err Disk) p q = Peeks p q ⊎ PreparesInPart p q

-- the disk failed
abbrev pub is_prepare_disk_fault : Result (Unit {0}) PrepareFault → Bool
is_prepare_disk_fault (Ok x) = false
is_prepare_disk_fault (Err NotEmpty) = false
is_prepare_disk_fault (Err Disk) = true

-- a head without transitions and rows: their number, and five counts
abbrev pub empty_head : List ℕ
empty_head = 0 ∷ 0 ∷ 0 ∷ 0 ∷ 0 ∷ 0 ∷ 0 ∷ 0 ∷ 0 ∷ 0 ∷ 0 ∷ 0 ∷ 0 ∷ 0 ∷ 0 ∷ 0 ∷ 0 ∷ 0 ∷ 0 ∷ 0 ∷ 0 ∷ 0 ∷ 0 ∷ 0 ∷ 0 ∷ 0 ∷ 0 ∷ 0 ∷ []

-- what was prepared is opened as a journal of version 2 and generation 1 without frames, whose first gate is at place 51
abbrev pub OpensEmpty : Type 0
OpensEmpty = (p q : Past) → Prepares p q → IsOpening (content q) A 2 1 empty_head [] None 51
