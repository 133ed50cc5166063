-- The laws of the step, for boards of any rows, any commands and any log.
use Rattle.std.specs.Prelude.{◌≡◌, ◌≢◌, ◌↔◌, ℕ, ◌+◌, ◌<◌, ◌≤◌, false, List, [], ◌∷◌, ◌++◌, length, None, IsSome, All, Option, take}
use Rattle.cell_records.specs.declared.cell_row.CellRow.{CellRow}
use Rattle.lrp_records.specs.States.{holder_of}
use Rattle.lrp_records.specs.declared.actual.Actual.{Actual}
use Rattle.task_records.specs.declared.task.Task.{Task}
use Rattle.bbs_laws.specs.Births.{awaits_outcome, completions}
use Rattle.bbs_model.specs.Limits.{most_wanted}
use Rattle.bbs_model.specs.Replay.{replay, AreLegal, replay_log, IsLawful, IsReached}
use Rattle.bbs_model.specs.Runs.{state_after, events_after, state_after_all, legal_ones}
use Rattle.bbs_model.specs.Step.{attempt_of, verdict_of, IsLegal, edited, rows_after, events_of}
use Rattle.bbs_model.specs.Tables.{wanted}
use Rattle.bbs_model.specs.Valid.{IsValid, IsHeldBefore}
use Rattle.task_records.specs.States.{runner_of}
use Rattle.bbs_model.specs.declared.attempt.Attempt.TheVariants.{Change as Changes}
use Rattle.bbs_model.specs.declared.attempt.Edit.{Edit}
use Rattle.bbs_model.specs.declared.command.Command.{Command}
use Rattle.bbs_model.specs.declared.item.Item.{Item}
use Rattle.bbs_model.specs.declared.item.Item.TheVariants.{Done, Doubt}
use Rattle.bbs_model.specs.declared.rows.Rows.{Rows}
use Rattle.bbs_model.specs.declared.verdict.BoardRefusal.TheVariants.{BoardFull}
use Rattle.bbs_model.specs.declared.verdict.Verdict.TheVariants.{Ok, Refused}

-- a command that isn't legal changes nothing and nothing is told of it, and only on a full board would
-- it change anything; a legal one is a transition
pub record ChangesWhereLegal (rows : Rows) (c : Command) : Type 0 where
  pub stays : verdict_of rows c ≢ Ok → state_after rows c ≡ rows
  pub silent : verdict_of rows c ≢ Ok → events_after rows c ≡ None
  pub asks_nothing : verdict_of rows c ≢ Ok → verdict_of rows c ≢ Refused BoardFull → events_of rows c ≡ None
  pub counted : IsLegal rows c → (state_after rows c).next ≡ rows.next + 1
  pub told : IsLegal rows c → IsSome (events_after rows c)

-- a legal command keeps rows valid, and what all processes want together is within its limit after the
-- first of its edits too
pub record KeepsValid (rows : Rows) (c : Command) : Type 0 where
  pub valid : IsValid rows → IsLegal rows c → IsValid (rows_after rows c)
  pub fits : IsValid rows → IsLegal rows c → (first : Edit) (second : Option Edit) →
      attempt_of rows c ≡ Changes first second → wanted (edited rows first) ≤ most_wanted

-- a run leaves the replay of those of its commands that were legal, and nothing of the others
pub record ReplaysWhatWasLegal (rows : Rows) (cs : List Command) : Type 0 where
  pub replayed : state_after_all rows cs ≡ replay rows (legal_ones rows cs)
  pub legal : AreLegal rows (legal_ones rows cs)
  pub all : AreLegal rows cs → legal_ones rows cs ≡ cs

-- a replay goes on where an earlier one ended
pub record GoesOn (rows : Rows) (xs ys : List Command) : Type 0 where
  pub replayed : replay rows (xs ++ ys) ≡ replay (replay rows xs) ys
  pub legal : AreLegal rows (xs ++ ys) ↔ (AreLegal rows xs × AreLegal (replay rows xs) ys)

-- a replay counts its commands, and keeps rows valid
pub record KeepsBoard (rows : Rows) (cs : List Command) : Type 0 where
  pub next : AreLegal rows cs → (replay rows cs).next ≡ rows.next + length cs
  pub valid : IsValid rows → AreLegal rows cs → IsValid (replay rows cs)

-- the commands of a log that are done
abbrev pub done_of : List Item → List Command
done_of [] = []
done_of (Done by c ∷ is) = c ∷ done_of is
done_of (Doubt by c ∷ is) = done_of is

-- a log leaves the replay of its commands that are done, which are its transitions, and nothing of the
-- doubts
pub record ReplaysWhatIsDone (base : Rows) (log : List Item) : Type 0 where
  pub replayed : replay_log base log ≡ replay base (done_of log)
  pub legal : IsLawful base log → AreLegal base (done_of log)
  pub next : IsLawful base log → (replay_log base log).next ≡ base.next + length (done_of log)

-- a log goes on where an earlier one ended
pub record LogGoesOn (base : Rows) (xs ys : List Item) : Type 0 where
  pub replayed : replay_log base (xs ++ ys) ≡ replay_log (replay_log base xs) ys
  pub lawful : IsLawful base (xs ++ ys) ↔ (IsLawful base xs × IsLawful (replay_log base xs) ys)

-- the task of a birth gets its outcome at most once, and not at all where it was born before the log
-- and doesn't wait for its outcome any more
pub record CompletesOnce (base : Rows) (log : List Item) (birth : ℕ) : Type 0 where
  pub once : completions base log birth ≤ 1
  pub never_again : birth < base.next → awaits_outcome base birth ≡ false → completions base log birth ≡ 0

-- nor does it in a log that begins where the board was found after at least so many items of this one
abbrev pub CompletesOnceOver : Rows → List Item → ℕ → ℕ → Type 0
CompletesOnceOver base log from birth =
    (found : Rows) (later : List Item) → IsReached base log from found → IsLawful found later →
    completions base (take from log) birth + completions found later birth ≤ 1

-- each container that a row names, and each cell, is of a cell that joined before
pub record EpochsArePast (rows : Rows) : Type 0 where
  pub actual : All (λ (a : Actual). IsHeldBefore rows.next (holder_of a.state)) rows.actual
  pub tasks : All (λ (t : Task). IsHeldBefore rows.next (runner_of t.state)) rows.tasks
  pub cells : All (λ (c : CellRow). c.epoch < rows.next) rows.cells
