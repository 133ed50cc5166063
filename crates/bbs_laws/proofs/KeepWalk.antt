-- What holds of what a command comes to, kind by kind.
use Rattle.std.proofs.Common.{◌⊎◌, inl, inr, refl, ◌≡◌, ℕ, ◌+◌, ◌==◌, ◌&&◌, true, cond, not, List, ◌++◌, Option, Some, None, nat_eq, nat_lt}
use Rattle.std.specs.Option.{option_eq}
use Rattle.cell_records.specs.declared.cell_row.CellRow.{CellRow}
use Rattle.crash_backoff.specs.declared.moment.Moment.{Moment}
use Rattle.diego_names.specs.declared.instance.Instance.{Instance}
use Rattle.diego_names.specs.declared.key.Key.{Key}
use Rattle.lrp_records.specs.Moves.{lrp_move}
use Rattle.lrp_records.specs.declared.actual.Actual.{Actual}
use Rattle.lrp_records.specs.declared.desired.Desired.{Desired}
use Rattle.lrp_records.specs.declared.lrp_move.LrpMove.{LrpMove}
use Rattle.lrp_records.specs.declared.lrp_move.LrpMove.TheVariants as lrp
use Rattle.lrp_records.specs.declared.move_end.MoveEnd.{MoveEnd}
use Rattle.lrp_records.specs.declared.move_end.MoveEnd.TheVariants as end
use Rattle.lrp_records.specs.declared.presence.Presence.{Presence}
use Rattle.lrp_records.specs.declared.presence.Presence.TheVariants.{Evacuating, Suspect}
use Rattle.task_records.specs.declared.move_kind.TaskMove.{TaskMove}
use Rattle.task_records.specs.declared.move_kind.TaskMove.TheVariants as task
use Rattle.bbs_laws.specs.Events.{aside_in}
use Rattle.bbs_model.specs.Attempts.{Refusals, if_known, if_joined, put, drop_row, unless_refused}
use Rattle.bbs_model.specs.Cells.{join_refusals, renew, drain, vanish}
use Rattle.bbs_model.specs.Domains.{holds_at, lease_end, told_end, fresh_refusals, fresh_row, fresh, forget}
use Rattle.bbs_model.specs.Found.{found_by}
use Rattle.bbs_model.specs.Lrps.{new_row, domain_of, make_refusals, make, moved_to, move_lrp, move_lrp_by_cell, is_running_as, runs_as, stays_because, aside_refusals, set_aside, keeps_aside, drop_aside, lease_refusals}
use Rattle.bbs_model.specs.Processes.{desire_refusals, desire, asks_for, resize_refusals, update, undesire}
use Rattle.bbs_model.specs.Step.{attempt_at}
use Rattle.bbs_model.specs.Tasks.{new_task, move_task, move_task_by_cell}
use Rattle.bbs_model.specs.declared.attempt.Attempt.{Attempt}
use Rattle.bbs_model.specs.declared.attempt.Attempt.TheVariants.{Refuse, Keep}
use Rattle.bbs_model.specs.declared.command.Op.{Op}
use Rattle.bbs_model.specs.declared.command.Op.TheVariants as op
use Rattle.bbs_model.specs.declared.domain_row.DomainRow.{DomainRow}
use Rattle.bbs_model.specs.declared.event.Row.{Row}
use Rattle.bbs_model.specs.declared.event.Row.TheVariants as row
use Rattle.bbs_model.specs.declared.found.Found.{Found}
use Rattle.bbs_model.specs.declared.rows.Rows.{Rows}
use Rattle.bbs_model.specs.declared.verdict.BoardRefusal.{BoardRefusal}
use Rattle.bbs_model.specs.declared.verdict.BoardRefusal.TheVariants as why
use Rattle.bbs_laws.proofs.KeepSteps.{ArePassed, by_test, by_passing, by_knowing, by_joining}

-- an evacuation or a suspicion that isn't refused changes the row that is RUNNING in the container
module _ (P : Attempt → Type 0) (refused : (why : BoardRefusal) → P (Refuse why)) (kept : P Keep)
    (presence : Presence) (aside : Option Actual) (refusals : Refusals)
    (found : Found) (instance : Instance) (now : Moment)
    (changes : (old : Actual) → found.ordinary ≡ Some old → is_running_as old.state instance ≡ true
    → ArePassed refusals → P (set_aside presence old now)) where
  pub each-keeps_aside : P (keeps_aside presence aside refusals found instance now)
  each-keeps_aside =
      let stays = λ (old : Actual). Refuse (stays_because old.state instance) in
      let sets = λ (old : Actual). unless_refused refusals (set_aside presence old now) in
      let step = λ (old : Actual). cond (is_running_as old.state instance) (sets old) (stays old) in
      by_test P refused (runs_as aside instance && not (runs_as found.ordinary instance)) Keep
      (if_known found.ordinary step) (λ already. kept) (λ other.
      by_knowing P refused found.ordinary step (λ old known.
      by_test P refused (is_running_as old.state instance) (sets old) (stays old) (λ runs.
      by_passing P refused refusals (set_aside presence old now) (λ passed.
      changes old known runs passed)) (λ rests. refused (stays_because old.state instance))))

-- the row is of another table than the tasks
abbrev pub IsNoTask : Row → Type 0
IsNoTask (row.Desired d) = Unit {0}
IsNoTask (row.Actual a) = Unit {0}
IsNoTask (row.Task t) = ⊥
IsNoTask (row.Cell c) = Unit {0}
IsNoTask (row.Domain d) = Unit {0}

-- the row is one of those that were found, of another table than the tasks
abbrev pub IsOfFound : Found → Row → Type 0
IsOfFound found (row.Desired d) = found.desired ≡ Some d
IsOfFound found (row.Actual a) = (found.ordinary ≡ Some a) ⊎ ((found.evacuating ≡ Some a) ⊎ (found.suspect ≡ Some a))
IsOfFound found (row.Task t) = ⊥
IsOfFound found (row.Cell c) = found.cell ≡ Some c
IsOfFound found (row.Domain d) = found.domain ≡ Some d

-- where refusals, Keep, and a put or a removal of such rows have it, each of these kinds has it
module _ (P : Attempt → Type 0) (refused : (why : BoardRefusal) → P (Refuse why)) (kept : P Keep)
    (puts : (r : Row) → IsNoTask r → P (put r)) (found : Found)
    (drops : (r : Row) → IsOfFound found r → P (drop_row r)) where
  pub each-desire : (d : Desired) → P (desire found d)
  each-desire d = by_passing P refused (desire_refusals found d) (put (row.Desired d))
      (λ passed. puts (row.Desired d) tt)

  pub each-update : (instances : ℕ) (route : Option (List ℕ)) (port : ℕ) → P (update found instances route port)
  each-update instances route port =
      let changed = λ (old : Desired). let new : Desired =
      record old { instances = instances; route = route; port = port } in new in
      let resized = λ (old : Desired). unless_refused (resize_refusals found old instances)
      (put (row.Desired (changed old))) in
      by_knowing P refused found.desired (λ old. cond (asks_for old instances route port) Keep (resized old))
      (λ old known.
      by_test P refused (asks_for old instances route port) Keep (resized old) (λ asked. kept) (λ other.
      by_passing P refused (resize_refusals found old instances) (put (row.Desired (changed old)))
      (λ passed. puts (row.Desired (changed old)) tt)))

  pub each-undesire : P (undesire found)
  each-undesire = by_knowing P refused found.desired (λ d. drop_row (row.Desired d))
      (λ d known. drops (row.Desired d) known)

  pub each-make : (key : Key) (now : Moment) → P (make found key now)
  each-make key now =
      let new = new_row key (domain_of found.desired) now in
      by_passing P refused (make_refusals found key) (put (row.Actual new)) (λ passed. puts (row.Actual new) tt)

  each-moved_to : (old : Actual) (end : MoveEnd) → found.ordinary ≡ Some old → P (moved_to old end)
  each-moved_to old (end.Changed new) known = puts (row.Actual new) tt
  each-moved_to old end.Gone known = drops (row.Actual old) (inl known)
  each-moved_to old end.Same known = kept
  each-moved_to old (end.Refused because) known = refused (why.Lrp because)

  pub each-move_lrp : (move : LrpMove) (now : Moment) → P (move_lrp found move now)
  each-move_lrp move now =
      by_knowing P refused found.ordinary (λ old. moved_to old (lrp_move old move now))
      (λ old known. each-moved_to old (lrp_move old move now) known)

  pub each-move_lrp_by_cell : (epoch : ℕ) (move : LrpMove) (now : Moment) → P (move_lrp_by_cell found epoch move now)
  each-move_lrp_by_cell epoch move now =
      by_knowing P refused found.ordinary (λ old. if_joined found.cell epoch
      (λ c. moved_to old (lrp_move old move now))) (λ old known.
      by_joining P refused found.cell epoch (λ c. moved_to old (lrp_move old move now))
      (λ c joined same. each-moved_to old (lrp_move old move now) known))

  pub each-drop_aside : (aside : Option Actual) → ((old : Actual) → aside ≡ Some old → IsOfFound found (row.Actual old))
      → (instance : Instance)
      → P (drop_aside aside instance)
  each-drop_aside aside is_found instance =
      let step = λ (old : Actual). cond (is_running_as old.state instance) (drop_row (row.Actual old))
      (Refuse (stays_because old.state instance)) in
      by_knowing P refused aside step (λ old known.
      by_test P refused (is_running_as old.state instance) (drop_row (row.Actual old))
      (Refuse (stays_because old.state instance))
      (λ runs. drops (row.Actual old) (is_found old known)) (λ rests. refused (stays_because old.state instance)))

  pub each-join : (new : CellRow) → P (unless_refused (join_refusals found) (put (row.Cell new)))
  each-join new = by_passing P refused (join_refusals found) (put (row.Cell new)) (λ passed. puts (row.Cell new) tt)

  pub each-renew : (epoch ttl : ℕ) (now : Moment) → P (renew found epoch ttl now)
  each-renew epoch ttl now =
      let new = λ (old : CellRow). let row : CellRow = record old { until = now.0 + ttl } in row in
      by_joining P refused found.cell epoch (λ old. cond (old.until == now.0 + ttl) Keep (put (row.Cell (new old))))
      (λ old known same.
      by_test P refused (old.until == now.0 + ttl) Keep (put (row.Cell (new old))) (λ is. kept)
      (λ other. puts (row.Cell (new old)) tt))

  pub each-drain : (epoch : ℕ) → P (drain found epoch)
  each-drain epoch =
      let new = λ (old : CellRow). let row : CellRow = record old { evacuating = true } in row in
      by_joining P refused found.cell epoch (λ old. cond old.evacuating Keep (put (row.Cell (new old))))
      (λ old known same.
      by_test P refused old.evacuating Keep (put (row.Cell (new old))) (λ is. kept)
      (λ other. puts (row.Cell (new old)) tt))

  vanish_of : (old : Option CellRow) (now : Moment) → found.cell ≡ old → P (vanish old now)
  vanish_of None now known = refused why.UnknownCell
  vanish_of (Some old) now known =
      by_test P refused (nat_lt now.0 old.until) (Refuse (why.LeaseHolds old.until)) (drop_row (row.Cell old))
      (λ holds. refused (why.LeaseHolds old.until)) (λ ended. drops (row.Cell old) known)

  pub each-vanish : (now : Moment) → P (vanish found.cell now)
  each-vanish now = vanish_of found.cell now refl

  fresh_row_of : (old : Option DomainRow) (new : DomainRow) → P (fresh_row old new)
  fresh_row_of None new = puts (row.Domain new) tt
  fresh_row_of (Some old) new =
      by_test P refused (option_eq nat_eq old.until new.until) Keep (put (row.Domain new)) (λ same. kept)
      (λ other. puts (row.Domain new) tt)

  pub each-fresh : (domain : List ℕ) (ttl : ℕ) (now : Moment) → P (fresh found domain ttl now)
  each-fresh domain ttl now =
      let new : DomainRow = record { domain = domain; until = lease_end ttl now } in
      by_passing P refused (fresh_refusals found) (fresh_row found.domain new)
      (λ passed. fresh_row_of found.domain new)

  pub each-forget : (now : Moment) → P (forget found now)
  each-forget now =
      let holds = λ (old : DomainRow). Refuse (why.LeaseHolds (told_end old.until)) in
      by_knowing P refused found.domain (λ old. cond (holds_at old now) (holds old) (drop_row (row.Domain old)))
      (λ old known.
      by_test P refused (holds_at old now) (holds old) (drop_row (row.Domain old))
      (λ still. refused (why.LeaseHolds (told_end old.until))) (λ ended. drops (row.Domain old) known))

-- and so has each command, if those that keep an instance aside and the kinds of tasks have it
module _ (rows : Rows) (now : Moment) (M : Op → Attempt → Type 0)
    (refused : (asked : Op) (why : BoardRefusal) → M asked (Refuse why)) (kept : (asked : Op) → M asked Keep)
    (puts : (asked : Op) (r : Row) → IsNoTask r → M asked (put r))
    (drops : (asked : Op) (r : Row) → IsOfFound (found_by rows asked) r → M asked (drop_row r))
    (sets_aside : (asked : Op) (place : Key × Presence) → aside_in asked ≡ Some place → (aside : Option Actual)
    (refusals : Refusals) (instance : Instance)
    → M asked (keeps_aside place.1 aside refusals (found_by rows asked) instance now))
    (begins : (name : List ℕ) (memory disk : ℕ) (tag : Option (List ℕ))
    → let asked = op.NewTask name memory disk tag in M asked
    (new_task (found_by rows asked) name memory disk tag now))
    (moves : (asked : Op) (move : TaskMove) → M asked (move_task (found_by rows asked) move now))
    (moves_by_cell : (asked : Op) (epoch : ℕ) (move : TaskMove)
    → M asked (move_task_by_cell (found_by rows asked) epoch move now)) where
  pub each-attempt : (asked : Op) → M asked (attempt_at (found_by rows asked) now asked)
  each-attempt (op.Desire desired) = let a = op.Desire desired in
      each-desire (M a) (refused a) (kept a) (puts a) (found_by rows a) (drops a) desired
  each-attempt (op.Update process instances route port) =
      let a = op.Update process instances route port in each-update (M a) (refused a) (kept a) (puts a)
      (found_by rows a) (drops a) instances route port
  each-attempt (op.Undesire process) = let a = op.Undesire process in
      each-undesire (M a) (refused a) (kept a) (puts a) (found_by rows a) (drops a)
  each-attempt (op.Make key) = let a = op.Make key in each-make (M a) (refused a) (kept a) (puts a) (found_by rows a)
      (drops a) key now
  each-attempt (op.Claim key instance cell) =
      let a = op.Claim key instance cell in each-move_lrp_by_cell (M a) (refused a) (kept a) (puts a) (found_by rows a)
      (drops a) instance.epoch (lrp.Claim instance cell) now
  each-attempt (op.Start key instance cell) =
      let a = op.Start key instance cell in each-move_lrp_by_cell (M a) (refused a) (kept a) (puts a) (found_by rows a)
      (drops a) instance.epoch (lrp.Start instance cell) now
  each-attempt (op.Crash key instance) = let a = op.Crash key instance in
      each-move_lrp (M a) (refused a) (kept a) (puts a) (found_by rows a) (drops a) (lrp.Crash instance) now
  each-attempt (op.Unclaim key instance) = let a = op.Unclaim key instance in
      each-move_lrp (M a) (refused a) (kept a) (puts a) (found_by rows a) (drops a) (lrp.Unclaim instance) now
  each-attempt (op.Restart key) = let a = op.Restart key in
      each-move_lrp (M a) (refused a) (kept a) (puts a) (found_by rows a) (drops a) lrp.Restart now
  each-attempt (op.Remove key instance) = let a = op.Remove key instance in
      each-move_lrp (M a) (refused a) (kept a) (puts a) (found_by rows a) (drops a) (lrp.Remove instance) now
  each-attempt (op.PlaceFail key) = let a = op.PlaceFail key in
      each-move_lrp (M a) (refused a) (kept a) (puts a) (found_by rows a) (drops a) lrp.PlaceFail now
  each-attempt (op.Evacuate key instance) =
      let f = found_by rows (op.Evacuate key instance) in
      sets_aside (op.Evacuate key instance) (key, Evacuating) refl f.evacuating (aside_refusals f.evacuating f) instance
  each-attempt (op.DropEvacuating key instance) =
      let a = op.DropEvacuating key instance in
      each-drop_aside (M a) (refused a) (kept a) (puts a) (found_by rows a) (drops a) (found_by rows a).evacuating
      (λ old known. inr (inl known)) instance
  each-attempt (op.NewTask name memory disk tag) = begins name memory disk tag
  each-attempt (op.StartTask name instance cell) = moves_by_cell (op.StartTask name instance cell) instance.epoch
      (task.Start instance cell)
  each-attempt (op.CompleteTask name instance failed) = moves (op.CompleteTask name instance failed)
      (task.Complete instance failed)
  each-attempt (op.CancelTask name) = moves (op.CancelTask name) task.Cancel
  each-attempt (op.ResolveTask name) = moves (op.ResolveTask name) task.Resolve
  each-attempt (op.DeleteTask name) = moves (op.DeleteTask name) task.Delete
  each-attempt (op.KickTask name) = moves (op.KickTask name) task.Kick
  each-attempt (op.ExpireTask name) = moves (op.ExpireTask name) task.Expire
  each-attempt (op.Join cell zone tag totals ttl) =
      let a = op.Join cell zone tag totals ttl in each-join (M a) (refused a) (kept a) (puts a) (found_by rows a)
      (drops a) _
  each-attempt (op.Renew cell epoch ttl) = let a = op.Renew cell epoch ttl in
      each-renew (M a) (refused a) (kept a) (puts a) (found_by rows a) (drops a) epoch ttl now
  each-attempt (op.Drain cell epoch) = let a = op.Drain cell epoch in
      each-drain (M a) (refused a) (kept a) (puts a) (found_by rows a) (drops a) epoch
  each-attempt (op.Vanish cell) = let a = op.Vanish cell in
      each-vanish (M a) (refused a) (kept a) (puts a) (found_by rows a) (drops a) now
  each-attempt (op.Fresh domain ttl) = let a = op.Fresh domain ttl in each-fresh (M a) (refused a) (kept a) (puts a)
      (found_by rows a) (drops a) domain ttl now
  each-attempt (op.Forget domain) = let a = op.Forget domain in each-forget (M a) (refused a) (kept a) (puts a)
      (found_by rows a) (drops a) now
  each-attempt (op.Suspect key instance) =
      let f = found_by rows (op.Suspect key instance) in
      sets_aside (op.Suspect key instance) (key, Suspect) refl f.suspect
      (lease_refusals f.cell instance.epoch now ++ aside_refusals f.suspect f) instance
  each-attempt (op.DropSuspect key instance) =
      let a = op.DropSuspect key instance in
      each-drop_aside (M a) (refused a) (kept a) (puts a) (found_by rows a) (drops a) (found_by rows a).suspect
      (λ old known. inr (inr known)) instance
