-- Runs on one disk, one after another: what the next one finds, whatever stop ended the one before, and what stays over all.
use Rattle.std.specs.Prelude.{◌≡◌, ◌⊎◌, ℕ, ◌+◌, List, [], ◌∷◌, Some}
use Rattle.std.specs.List.{slice_get}
use Rattle.disk_trait.specs.Past.{Past, Image, Images, ImagesSince, IsSettled, content}
use Rattle.bbs_model.specs.Replay.{IsLawful, IsReached}
use Rattle.bbs_model.specs.declared.command.Command.{Command}
use Rattle.bbs_model.specs.declared.item.Item.{Item}
use Rattle.bbs_model.specs.declared.item.Item.TheVariants.{Done}
use Rattle.bbs_model.specs.declared.rows.Rows.{Rows}
use Rattle.bbs_board.specs.Kept.{Kept}
use Rattle.bbs_board.specs.Opening.{IsBoard}
use Rattle.diego_engine.specs.Headline.{KeptSince, TakesLog}

-- where a stop at p could leave the board alone, whatever a stop since then left is a board that the log reaches
abbrev pub KeepsSettledBoards : Type 0
KeepsSettledBoards =
    (rows : Rows) (log : List Item) (marks : List ℕ) (p q : Past) → IsBoard rows (content p) → IsSettled p
    → KeptSince rows log marks p q → Kept rows log marks p.clock q

-- the rows that the next run found: where its disk read what a stop of this run left, the log reaches them, unless a stop
-- before the run could leave the same; and they have each item that was acknowledged before the stop
pub record FindsLog (rows : Rows) (log : List Item) (marks : List ℕ) (p q : Past) (found : Rows) (next : Past) : Type 0 where
  pub reached : ImagesSince q p.clock (content next) → Images p (content next) ⊎ IsReached rows log 0 found
  pub acknowledged : (place mark by : ℕ) (command : Command) → slice_get log place ≡ Some (Done by command)
      → slice_get marks place ≡ Some mark → ImagesSince q mark (content next) → IsReached rows log (place + 1) found

-- so it is with whatever reads as a board behind a run
abbrev pub NextRunFindsLog : Type 0
NextRunFindsLog =
    (rows : Rows) (log : List Item) (marks : List ℕ) (p q : Past) (faults faults' : ℕ) (found : Rows) (next : Past)
    → TakesLog rows log marks p q faults faults' → IsBoard found (content next) → FindsLog rows log marks p q found next

-- the next run began where a stop since this moment ended the one before: what a stop at its entry could leave, that stop
-- could leave; so it is after a power cut, and after a kill that leaves bytes that no sync has covered
abbrev pub BeginsAfter : Past → ℕ → Past → Type 0
BeginsAfter q since next = (image : Image) → Images next image → ImagesSince q since image

-- the rows that are found behind these runs, the last of them first: each began with those that were found before it, took
-- its log, and was ended at some place of it
abbrev pub IsFoundBehind : Rows → List (List Item) → Rows → Type 0
IsFoundBehind rows [] found = found ≡ rows
IsFoundBehind rows (log ∷ logs) found =
    (before : Rows) × IsFoundBehind rows logs before × IsLawful before log × IsReached before log 0 found

-- the image is a board whose rows are reached by a log with all that was done up to this place, or by what later runs did
-- behind such rows
pub record HoldsOn (base : Rows) (log : List Item) (from : ℕ) (image : Image) : Type 0 where
  pub rows : Rows
  pub board : IsBoard rows image
  pub first : Rows
  pub reached : IsReached base log from first
  pub later : List (List Item)
  pub behind : IsFoundBehind first later rows

-- whatever a stop at p leaves is such a board
abbrev pub LeavesWhatHolds : Rows → List Item → ℕ → Past → Type 0
LeavesWhatHolds base log from p = (image : Image) → Images p image → HoldsOn base log from image

-- what was acknowledged in a run is there when the next one begins, which a stop since then came before
abbrev pub NextRunHoldsAcknowledged : Type 0
NextRunHoldsAcknowledged =
    (base : Rows) (log : List Item) (marks : List ℕ) (p q : Past) (faults faults' place mark by : ℕ) (command : Command) (next : Past)
    → TakesLog base log marks p q faults faults' → slice_get log place ≡ Some (Done by command)
    → slice_get marks place ≡ Some mark → BeginsAfter q mark next → LeavesWhatHolds base log (place + 1) next

-- and what is there when a run begins is there when the next one does, at whatever moment the run was stopped
abbrev pub EachRunHandsItOn : Type 0
EachRunHandsItOn =
    (base : Rows) (log : List Item) (from : ℕ) (rows : Rows) (later : List Item) (marks : List ℕ) (p q : Past) (faults faults' : ℕ) (next : Past)
    → LeavesWhatHolds base log from p → IsBoard rows (content p) → TakesLog rows later marks p q faults faults'
    → BeginsAfter q p.clock next → LeavesWhatHolds base log from next
