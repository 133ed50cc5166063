-- A board over any number of stops: what it logged each time, and what it was found at after it.
use Rattle.std.specs.Prelude.{◌≡◌, ℕ, ◌+◌, ◌<◌, ◌≤◌, false, List, [], ◌∷◌, take}
use Rattle.bbs_laws.specs.Births.{awaits_outcome, completions}
use Rattle.bbs_model.specs.Replay.{IsLawful, IsReached}
use Rattle.bbs_model.specs.Valid.{IsValid}
use Rattle.bbs_model.specs.declared.item.Item.{Item}
use Rattle.bbs_model.specs.declared.rows.Rows.{Rows}

-- the birth is of the board's past, and its task doesn't wait for its outcome: it is COMPLETED or
-- RESOLVING, or it is gone
pub record IsOver (rows : Rows) (birth : ℕ) : Type 0 where
  pub born : birth < rows.next
  pub rests : awaits_outcome rows birth ≡ false

-- what is over when a log begins is over wherever the board is found after it
abbrev pub StaysOver : Rows → List Item → ℕ → Type 0
StaysOver base log birth =
    (from : ℕ) (rows : Rows) → IsReached base log from rows → IsOver base birth → IsOver rows birth

-- from one opening of a board to the next: what it logged, how many of the first items are kept for
-- certain, and the rows that it was found at after it
pub record Incarnation : Type 0 where
  pub log : List Item
  pub kept : ℕ
  pub found : Rows

-- each incarnation is lawful from where the board was found before it
abbrev pub AreIncarnations : Rows → List Incarnation → Type 0
AreIncarnations base [] = Unit {0}
AreIncarnations base (s ∷ ss) = IsLawful base s.log × IsReached base s.log s.kept s.found × AreIncarnations s.found ss

-- how often the task of a birth got its outcome in items that are kept
abbrev pub kept_completions : Rows → List Incarnation → ℕ → ℕ
kept_completions base [] birth = 0
kept_completions base (s ∷ ss) birth = completions base (take s.kept s.log) birth + kept_completions s.found ss birth

-- no task gets its outcome twice over all incarnations
abbrev pub CompletesOnceInAll : Rows → List Incarnation → ℕ → Type 0
CompletesOnceInAll base incarnations birth =
    IsValid base → AreIncarnations base incarnations → kept_completions base incarnations birth ≤ 1
