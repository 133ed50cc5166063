-- A legal command leaves valid rows.
use Rattle.std.proofs.Common.{◌≡◌, ℕ, ◌<◌, ◌≤◌, Bool, true, false, cond, Option, nat_le, refl, subst}
use Rattle.crash_backoff.specs.declared.moment.Moment.{Moment}
use Rattle.lrp_records.specs.declared.lrp_move.LrpMove.TheVariants as lrp
use Rattle.lrp_records.specs.declared.presence.Presence.TheVariants.{Evacuating, Suspect}
use Rattle.task_records.specs.declared.move_kind.TaskMove.TheVariants as task
use Rattle.task_records.specs.Moves.{task_move}
use Rattle.task_records.specs.declared.move_end.TaskEnd.{TaskEnd}
use Rattle.task_records.specs.declared.move_end.TaskEnd.TheVariants as end
use Rattle.task_records.specs.declared.task.Task.{Task}
use Rattle.bbs_model.specs.Attempts.{if_joined}
use Rattle.bbs_laws.specs.Laws.{KeepsValid}
use Rattle.bbs_model.specs.Tasks.{new_task_refusals, task_moved_to}
use Rattle.bbs_model.specs.Found.{found_by}
use Rattle.bbs_model.specs.Limits.{most_wanted, most_transitions}
use Rattle.bbs_model.specs.Step.{attempt_at, attempt_of, judged, IsLegal, changed_by, edited, rows_after}
use Rattle.bbs_model.specs.Tables.{find_actual, find_cell, wanted}
use Rattle.bbs_model.specs.Valid.{IsValid}
use Rattle.bbs_model.specs.declared.attempt.Attempt.{Attempt}
use Rattle.bbs_model.specs.declared.attempt.Attempt.TheVariants.{Refuse, Keep, Change}
use Rattle.bbs_model.specs.declared.attempt.Edit.{Edit}
use Rattle.bbs_model.specs.declared.command.Command.{Command}
use Rattle.bbs_model.specs.declared.command.Op.{Op}
use Rattle.bbs_model.specs.declared.command.Op.TheVariants as op
use Rattle.bbs_model.specs.declared.rows.Rows.{Rows}
use Rattle.bbs_model.specs.declared.verdict.BoardRefusal.TheVariants.{BoardFull}
use Rattle.bbs_model.specs.declared.verdict.Verdict.TheVariants as verdict
use Rattle.bbs_laws.proofs.KeepCells.{IsValid-join, IsValid-renew, IsValid-drain, IsValid-vanish}
use Rattle.bbs_laws.proofs.KeepDomains.{IsValid-fresh, IsValid-forget}
use Rattle.bbs_laws.proofs.KeepDesired.{IsValid-desire, IsValid-update, IsValid-undesire}
use Rattle.bbs_laws.proofs.KeepLrps.{IsValid-make, IsValid-move_lrp, IsValid-move_lrp_by_cell, IsValid-evacuate, IsValid-suspect, IsValid-drop_aside}
use Rattle.bbs_laws.proofs.KeepSteps.{below_from, by_passing, by_knowing, by_joining}
use Rattle.bbs_laws.proofs.KeepWalk.{each-keeps_aside, each-attempt}
use Rattle.bbs_laws.proofs.KeepTasks.{IsValid-new_task, IsValid-move_task, IsValid-move_task_by_cell}

-- an attempt that comes to Ok is a change of a board that may make another transition
pub record Changes (next : ℕ) (attempt : Attempt) : Type 0 where
  pub first : Edit
  pub second : Option Edit
  pub is : attempt ≡ Change first second
  pub room : next < most_transitions

tested : (b : Bool) → cond b (verdict.Refused BoardFull) verdict.Ok ≡ verdict.Ok → b ≡ false
tested true h = cc
tested false h = refl

pub changes : (next : ℕ) (attempt : Attempt) → judged next attempt ≡ verdict.Ok → Changes next attempt
changes next (Refuse why) h = cc
changes next Keep h = cc
changes next (Change first second) h =
    record {
      first = first;
      second = second;
      is = refl;
      room =
          below_from most_transitions next (tested (nat_le most_transitions next) h);
    }

pub legal_changes : (rows : Rows) (c : Command) → IsLegal rows c → Changes rows.next (attempt_of rows c)
legal_changes rows c legal = changes rows.next (attempt_of rows c) legal

module _ (rows : Rows) (valid : IsValid rows) (room : rows.next < most_transitions) (now : Moment) where
  pub IsValid-attempt_at : (asked : Op) → IsValid (changed_by rows (attempt_at (found_by rows asked) now asked))
  IsValid-attempt_at (op.Desire desired) = IsValid-desire rows valid room desired
  IsValid-attempt_at (op.Update process instances route port) =
      IsValid-update rows valid room process instances route port
  IsValid-attempt_at (op.Undesire process) = IsValid-undesire rows valid room process
  IsValid-attempt_at (op.Make key) = IsValid-make rows valid room key now
  IsValid-attempt_at (op.Claim key instance cell) =
      IsValid-move_lrp_by_cell rows valid room key instance cell (lrp.Claim instance cell) now (λ before. before)
  IsValid-attempt_at (op.Start key instance cell) =
      IsValid-move_lrp_by_cell rows valid room key instance cell (lrp.Start instance cell) now (λ before. before)
  IsValid-attempt_at (op.Crash key instance) = IsValid-move_lrp rows valid room key (lrp.Crash instance) now tt
  IsValid-attempt_at (op.Unclaim key instance) = IsValid-move_lrp rows valid room key (lrp.Unclaim instance) now tt
  IsValid-attempt_at (op.Restart key) = IsValid-move_lrp rows valid room key lrp.Restart now tt
  IsValid-attempt_at (op.Remove key instance) = IsValid-move_lrp rows valid room key (lrp.Remove instance) now tt
  IsValid-attempt_at (op.PlaceFail key) = IsValid-move_lrp rows valid room key lrp.PlaceFail now tt
  IsValid-attempt_at (op.Evacuate key instance) = IsValid-evacuate rows valid room key instance now
  IsValid-attempt_at (op.DropEvacuating key instance) =
      IsValid-drop_aside rows valid room (find_actual rows key Evacuating) instance
  IsValid-attempt_at (op.NewTask name memory disk tag) = IsValid-new_task rows valid room name memory disk tag now
  IsValid-attempt_at (op.StartTask name instance cell) =
      IsValid-move_task_by_cell rows valid room name instance cell (task.Start instance cell) now (λ before. before)
  IsValid-attempt_at (op.CompleteTask name instance failed) =
      IsValid-move_task rows valid room name (task.Complete instance failed) now tt
  IsValid-attempt_at (op.CancelTask name) = IsValid-move_task rows valid room name task.Cancel now tt
  IsValid-attempt_at (op.ResolveTask name) = IsValid-move_task rows valid room name task.Resolve now tt
  IsValid-attempt_at (op.DeleteTask name) = IsValid-move_task rows valid room name task.Delete now tt
  IsValid-attempt_at (op.KickTask name) = IsValid-move_task rows valid room name task.Kick now tt
  IsValid-attempt_at (op.ExpireTask name) = IsValid-move_task rows valid room name task.Expire now tt
  IsValid-attempt_at (op.Join cell zone tag totals ttl) = IsValid-join rows valid room cell zone tag totals ttl now
  IsValid-attempt_at (op.Renew cell epoch ttl) = IsValid-renew rows valid room cell epoch ttl now
  IsValid-attempt_at (op.Drain cell epoch) = IsValid-drain rows valid room cell epoch
  IsValid-attempt_at (op.Vanish cell) = IsValid-vanish rows valid room (find_cell rows cell) now
  IsValid-attempt_at (op.Fresh domain ttl) = IsValid-fresh rows valid room domain ttl now
  IsValid-attempt_at (op.Forget domain) = IsValid-forget rows valid room domain now
  IsValid-attempt_at (op.Suspect key instance) = IsValid-suspect rows valid room key instance now
  IsValid-attempt_at (op.DropSuspect key instance) =
      IsValid-drop_aside rows valid room (find_actual rows key Suspect) instance

pub IsValid-rows_after : (rows : Rows) (c : Command) → IsValid rows → IsLegal rows c → IsValid (rows_after rows c)
IsValid-rows_after rows c valid legal = IsValid-attempt_at rows valid (legal_changes rows c legal).room c.now c.op

-- what all processes want together after the first edit of an attempt, as after all of it, which is valid
module _ (rows : Rows) (valid : IsValid rows) (now : Moment) where
  abbrev FirstFits : Attempt → Type 0
  FirstFits (Refuse why) = Unit {0}
  FirstFits Keep = Unit {0}
  FirstFits (Change first second) = wanted (edited rows first) ≤ most_wanted

  abbrev FitsAtOnce : Attempt → Type 0
  FitsAtOnce attempt = IsValid (changed_by rows attempt) → FirstFits attempt

  fits-moved_to : (old : Task) (end : TaskEnd) → FitsAtOnce (task_moved_to old end)
  fits-moved_to old (end.Changed new) after = after.desired.wanted
  fits-moved_to old end.Gone after = after.desired.wanted
  fits-moved_to old end.Same after = tt
  fits-moved_to old (end.Refused why) after = tt

  fits-attempt : (asked : Op) → FitsAtOnce (attempt_at (found_by rows asked) now asked)
  fits-attempt = each-attempt rows now (λ asked attempt. FitsAtOnce attempt) (λ asked why after. tt) (λ asked after. tt)
      (λ asked r is after. after.desired.wanted) (λ asked r is after. after.desired.wanted)
      (λ asked place is aside refusals instance. each-keeps_aside FitsAtOnce (λ why after. tt) (λ after. tt) place.1
      aside refusals (found_by rows asked) instance now (λ old known runs passed after. valid.desired.wanted))
      (λ name memory disk tag. by_passing FitsAtOnce (λ why after. tt)
      (new_task_refusals (found_by rows (op.NewTask name memory disk tag))) _
      (λ passed after. after.desired.wanted))
      (λ asked move. by_knowing FitsAtOnce (λ why after. tt) (found_by rows asked).task
      (λ old. task_moved_to old (task_move old move now)) (λ old known. fits-moved_to old (task_move old move now)))
      (λ asked epoch move. by_knowing FitsAtOnce (λ why after. tt) (found_by rows asked).task
      (λ old. if_joined (found_by rows asked).cell epoch (λ c. task_moved_to old (task_move old move now)))
      (λ old known.
      by_joining FitsAtOnce (λ why after. tt) (found_by rows asked).cell epoch
      (λ c. task_moved_to old (task_move old move now)) (λ c joined same.
      fits-moved_to old (task_move old move now))))

pub wanted-first : (rows : Rows) (c : Command) → IsValid rows → IsLegal rows c → (first : Edit) (second : Option Edit)
    → attempt_of rows c ≡ Change first second → wanted (edited rows first) ≤ most_wanted
wanted-first rows c valid legal first second is =
    subst (λ (a : Attempt). FirstFits rows valid c.now a) is
    (fits-attempt rows valid c.now c.op (IsValid-rows_after rows c valid legal))

pub keeps_valid : (rows : Rows) (c : Command) → KeepsValid rows c
keeps_valid rows c = record { valid = IsValid-rows_after rows c; fits = wanted-first rows c }
