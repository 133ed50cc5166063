-- Commands one after another, and the log of a board.
use Rattle.std.specs.Prelude.{◌≡◌, ◌⊎◌, ℕ, ◌≤◌, List, [], ◌∷◌, length, take, Some}
use Rattle.std.specs.List.{slice_get}
use Rattle.bbs_model.specs.Step.{IsLegal, rows_after}
use Rattle.bbs_model.specs.declared.command.Command.{Command}
use Rattle.bbs_model.specs.declared.item.Item.{Item}
use Rattle.bbs_model.specs.declared.item.Item.TheVariants.{Done, Doubt}
use Rattle.bbs_model.specs.declared.rows.Rows.{Rows}

-- the rows after commands that are legal one after another
abbrev pub replay : Rows → List Command → Rows
replay rows [] = rows
replay rows (c ∷ cs) = replay (rows_after rows c) cs

-- each command is legal at the rows after those before it
abbrev pub AreLegal : Rows → List Command → Type 0
AreLegal rows [] = Unit {0}
AreLegal rows (c ∷ cs) = IsLegal rows c × AreLegal (rows_after rows c) cs

-- the rows after an item of the log: a doubt counts as not done
abbrev pub after_item : Rows → Item → Rows
after_item rows (Done by c) = rows_after rows c
after_item rows (Doubt by c) = rows

-- the command of an item
abbrev pub command_in : Item → Command
command_in (Done by c) = c
command_in (Doubt by c) = c

-- the rows after a log
abbrev pub replay_log : Rows → List Item → Rows
replay_log rows [] = rows
replay_log rows (i ∷ is) = replay_log (after_item rows i) is

-- the command of each item, done or in doubt, is legal at its place
abbrev pub IsLawful : Rows → List Item → Type 0
IsLawful rows [] = Unit {0}
IsLawful rows (i ∷ is) = IsLegal rows (command_in i) × IsLawful (after_item rows i) is

-- the rows at a place of a log
abbrev pub rows_at : Rows → List Item → ℕ → Rows
rows_at base log place = replay_log base (take place log)

-- the rows after the items up to some place from this one on
pub record IsAtPlace (base : Rows) (log : List Item) (from : ℕ) (rows : Rows) : Type 0 where
  pub place : ℕ
  pub low : from ≤ place
  pub high : place ≤ length log
  pub rows_are : rows ≡ rows_at base log place

-- the rows as if a doubt at some place from this one on were done, as the last thing that happened
pub record IsAtDoubt (base : Rows) (log : List Item) (from : ℕ) (rows : Rows) : Type 0 where
  pub place : ℕ
  pub low : from ≤ place
  pub by : ℕ
  pub command : Command
  pub doubt : slice_get log place ≡ Some (Doubt by command)
  pub rows_are : rows ≡ rows_after (rows_at base log place) command

-- what a board may be found at: the rows at a place from this one on, or those and one doubt
abbrev pub IsReached : Rows → List Item → ℕ → Rows → Type 0
IsReached base log from rows = IsAtPlace base log from rows ⊎ IsAtDoubt base log from rows
