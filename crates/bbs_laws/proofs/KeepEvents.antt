-- What is told of a command's changes.
use Rattle.std.proofs.Common.{◌≡◌, ◌≢◌, ℕ, true, cond, ◌++◌, Option, Some, None, is_some, IfSome, refl, ap, ◌∙◌, subst, sym}
use Rattle.std.specs.Option.{unwrap_or}
use Rattle.crash_backoff.specs.declared.moment.Moment.{Moment}
use Rattle.diego_names.specs.declared.instance.Instance.{Instance}
use Rattle.diego_names.specs.declared.key.Key.{Key}
use Rattle.lrp_records.specs.Place.{place_of, place_order}
use Rattle.lrp_records.specs.declared.actual.Actual.{Actual}
use Rattle.lrp_records.specs.declared.presence.Presence.{Presence}
use Rattle.lrp_records.specs.declared.presence.Presence.TheVariants.{Ordinary, Evacuating, Suspect}
use Rattle.row_tables.specs.Table.{find_row, put_row}
use Rattle.task_records.specs.Moves.{task_move}
use Rattle.task_records.specs.declared.move_end.TaskEnd.{TaskEnd}
use Rattle.task_records.specs.declared.move_end.TaskEnd.TheVariants as end
use Rattle.task_records.specs.declared.move_kind.TaskMove.{TaskMove}
use Rattle.task_records.specs.declared.task.Task.{Task}
use Rattle.bbs_model.specs.Attempts.{Refusals, if_joined}
use Rattle.bbs_model.specs.Found.{found_by}
use Rattle.bbs_laws.specs.Events.{TellsAside, aside_in, TellsEachRow}
use Rattle.bbs_model.specs.Lrps.{aside_row, left_row, aside_refusals, keeps_aside, evacuate, lease_refusals, suspect}
use Rattle.bbs_model.specs.Step.{attempt_at, events_in}
use Rattle.bbs_model.specs.Tasks.{new_task_refusals, task_moved_to, move_task, move_task_by_cell}
use Rattle.bbs_model.specs.declared.attempt.Attempt.{Attempt}
use Rattle.bbs_model.specs.declared.command.Command.{Command}
use Rattle.bbs_model.specs.declared.command.Op.{Op}
use Rattle.bbs_model.specs.declared.command.Op.TheVariants as op
use Rattle.bbs_model.specs.declared.event.Change.TheVariants.{Created, Changed}
use Rattle.bbs_model.specs.declared.event.Events.{Events}
use Rattle.bbs_model.specs.declared.found.Found.{Found}
use Rattle.bbs_model.specs.declared.rows.Rows.{Rows}
use Rattle.bbs_model.specs.Tables.{find_actual}
use Rattle.bbs_laws.proofs.KeepLrps.{evacuating-aside, suspect-aside, place-kept, left-found}
use Rattle.bbs_laws.proofs.KeepActual.{place-found}
use Rattle.bbs_laws.proofs.KeepSteps.{by_passing, by_knowing, by_joining}
use Rattle.bbs_laws.proofs.KeepWalk.{each-keeps_aside, each-attempt}

module _ (rows : Rows) (now : Moment) where
  -- what is kept aside is told of in the row aside and then in the ORDINARY one
  abbrev Tells : Key → Presence → Attempt → Type 0
  Tells key presence attempt = IfSome (events_in rows attempt) (TellsAside key presence)

  two-keeps_aside : (presence : Presence) (key : Key) (aside : Option Actual) (refusals : Refusals) (found : Found)
      (instance : Instance) → presence ≢ Ordinary
      → found.ordinary ≡ find_actual rows key Ordinary
      → Tells key presence (keeps_aside presence aside refusals found instance now)
  two-keeps_aside presence key aside refusals found instance other is =
      each-keeps_aside (Tells key presence) (λ why. tt) tt presence aside refusals found instance now
      (λ old is_old runs passed.
      let known : find_actual rows key Ordinary ≡ Some old = sym is ∙ is_old in
      let there : is_some (find_row place_order place_of (place_of (left_row old now))
      (put_row place_order place_of (aside_row presence old) rows.actual)) ≡ true =
      ap (λ (o : Option Actual). is_some o) (left-found rows key presence old now other known) in
      record {
        first = place-kept rows key presence old known;
        second = record {
          change = ap (λ b. cond b Changed Created) there;
          row =
              place-found rows key Ordinary old known;
        };
      })

  -- two kinds of command keep an instance aside
  abbrev TellsOf : Key → Presence → Op → Type 0
  TellsOf key presence asked = aside_in asked ≡ Some (key, presence)
      → Tells key presence (attempt_at (found_by rows asked) now asked)

  two-attempt : (asked : Op) (key : Key) (presence : Presence) → TellsOf key presence asked
  two-attempt (op.Evacuate of instance) key presence is =
      let found = found_by rows (op.Evacuate of instance) in
      let same : (of, Evacuating) ≡ (key, presence) = ap (λ o. unwrap_or o (of, Evacuating)) is in
      subst (λ (p : Key × Presence). Tells p.0 p.1 (evacuate found instance now)) same
      (two-keeps_aside Evacuating of found.evacuating (aside_refusals found.evacuating found) found instance
      evacuating-aside refl)
  two-attempt (op.Suspect of instance) key presence is =
      let found = found_by rows (op.Suspect of instance) in
      let same : (of, Suspect) ≡ (key, presence) = ap (λ o. unwrap_or o (of, Suspect)) is in
      subst (λ (p : Key × Presence). Tells p.0 p.1 (suspect found instance now)) same
      (two-keeps_aside Suspect of found.suspect
      (lease_refusals found.cell instance.epoch now ++ aside_refusals found.suspect found) found instance
      suspect-aside refl)
  two-attempt other key presence is = cc

  -- the attempt changes one row, if it changes any
  abbrev IsSingle : Attempt → Type 0
  IsSingle attempt = IfSome (events_in rows attempt) (λ (events : Events). events.second ≡ None)

  single-moved_to : (old : Task) (end : TaskEnd) → IsSingle (task_moved_to old end)
  single-moved_to old (end.Changed new) = refl
  single-moved_to old end.Gone = refl
  single-moved_to old end.Same = tt
  single-moved_to old (end.Refused why) = tt

  single-move_task : (asked : Op) (move : TaskMove) → IsSingle (move_task (found_by rows asked) move now)
  single-move_task asked move =
      let found = found_by rows asked in
      by_knowing IsSingle (λ why. tt) found.task (λ old. task_moved_to old (task_move old move now))
      (λ old known. single-moved_to old (task_move old move now))

  single-move_task_by_cell : (asked : Op) (epoch : ℕ) (move : TaskMove)
      → IsSingle (move_task_by_cell (found_by rows asked) epoch move now)
  single-move_task_by_cell asked epoch move =
      let found = found_by rows asked in
      by_knowing IsSingle (λ why. tt) found.task (λ old. if_joined found.cell epoch
      (λ c. task_moved_to old (task_move old move now))) (λ old known.
      by_joining IsSingle (λ why. tt) found.cell epoch (λ c. task_moved_to old (task_move old move now))
      (λ c joined same. single-moved_to old (task_move old move now)))

  -- any command but those that keep an instance aside
  abbrev IsSingleUnless : Op → Attempt → Type 0
  IsSingleUnless asked attempt = aside_in asked ≡ None → IsSingle attempt

  single-attempt : (asked : Op) → IsSingleUnless asked (attempt_at (found_by rows asked) now asked)
  single-attempt = each-attempt rows now IsSingleUnless (λ asked why other. tt) (λ asked other. tt)
      (λ asked r is other. refl) (λ asked r is other. refl)
      (λ asked place is aside refusals instance other. let e : Some place ≡ None = sym is ∙ other in cc)
      (λ name memory disk tag other. by_passing IsSingle (λ why. tt)
      (new_task_refusals (found_by rows (op.NewTask name memory disk tag))) _ (λ passed. refl))
      (λ asked move other. single-move_task asked move)
      (λ asked epoch move other. single-move_task_by_cell asked epoch move)

pub tells_each_row : (rows : Rows) (c : Command) → TellsEachRow rows c
tells_each_row rows c = record {
  two = two-attempt rows c.now c.op;
  one = single-attempt rows c.now c.op;
}
