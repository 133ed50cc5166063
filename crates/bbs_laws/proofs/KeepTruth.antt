-- What is told of a command's changes is true.
use Rattle.std.proofs.Common.{◌≡◌, Bool, true, false, cond, Some, is_some, IfSome, refl, ap}
use Rattle.crash_backoff.specs.declared.moment.Moment.{Moment}
use Rattle.diego_names.specs.Order.{name_order}
use Rattle.diego_names.proofs.Public.{IsKeyOrder-name_order}
use Rattle.lrp_records.specs.Place.{place_of, place_order}
use Rattle.lrp_records.proofs.Public.{IsKeyOrder-place_order}
use Rattle.row_tables.proofs.Public.{find_row-put_row_same, find_row-without_row_same}
use Rattle.task_records.specs.Moves.{task_move}
use Rattle.task_records.specs.declared.move_end.TaskEnd.{TaskEnd}
use Rattle.task_records.specs.declared.move_end.TaskEnd.TheVariants as end
use Rattle.task_records.specs.declared.move_kind.TaskMove.{TaskMove}
use Rattle.task_records.specs.declared.task.Task.{Task}
use Rattle.bbs_model.specs.Attempts.{if_joined, put, drop_row}
use Rattle.bbs_model.specs.Found.{task_in, found_by}
use Rattle.bbs_laws.specs.Events.{StandsIn, SaysSo, AreTrue, TellsTruth}
use Rattle.bbs_model.specs.Lrps.{aside_row, left_row}
use Rattle.bbs_model.specs.Step.{attempt_at, changed_by, advanced, with_row, without_place_of, has_place_of, events_in}
use Rattle.bbs_model.specs.Tables.{process_of, task_name_of, cell_name_of, domain_name_of}
use Rattle.bbs_model.specs.Tasks.{new_task_refusals, task_moved_to}
use Rattle.bbs_model.specs.declared.attempt.Attempt.{Attempt}
use Rattle.bbs_model.specs.declared.command.Command.{Command}
use Rattle.bbs_model.specs.declared.command.Op.{Op}
use Rattle.bbs_model.specs.declared.command.Op.TheVariants as op
use Rattle.bbs_model.specs.declared.event.Change.TheVariants.{Created, Changed}
use Rattle.bbs_model.specs.declared.event.Row.{Row}
use Rattle.bbs_model.specs.declared.event.Row.TheVariants as row
use Rattle.bbs_model.specs.declared.rows.Rows.{Rows}
use Rattle.bbs_laws.proofs.KeepFound.{there, Stands-found}
use Rattle.bbs_laws.proofs.KeepSteps.{by_passing, by_knowing, by_joining}
use Rattle.bbs_laws.proofs.KeepWalk.{each-keeps_aside, each-attempt}

-- a row that was put stands there, with or without a further transition
Stands-with_row : (rows : Rows) (r : Row) → StandsIn (with_row rows r) r
Stands-with_row rows (row.Desired d) = find_row-put_row_same name_order process_of IsKeyOrder-name_order d rows.desired
Stands-with_row rows (row.Actual a) = find_row-put_row_same place_order place_of IsKeyOrder-place_order a rows.actual
Stands-with_row rows (row.Task t) = find_row-put_row_same name_order task_name_of IsKeyOrder-name_order t rows.tasks
Stands-with_row rows (row.Cell c) = find_row-put_row_same name_order cell_name_of IsKeyOrder-name_order c rows.cells
Stands-with_row rows (row.Domain d) =
    find_row-put_row_same name_order domain_name_of IsKeyOrder-name_order d rows.domains

Stands-advanced : (rows : Rows) (r : Row) → StandsIn rows r → StandsIn (advanced rows) r
Stands-advanced rows (row.Desired d) h = h
Stands-advanced rows (row.Actual a) h = h
Stands-advanced rows (row.Task t) h = h
Stands-advanced rows (row.Cell c) h = h
Stands-advanced rows (row.Domain d) h = h

-- nothing stands where a row was taken away
free-without : (rows : Rows) (r : Row) → has_place_of (advanced (without_place_of rows r)) r ≡ false
free-without rows (row.Desired d) = ap (λ o. is_some o)
    (find_row-without_row_same name_order process_of IsKeyOrder-name_order d.process rows.desired)
free-without rows (row.Actual a) = ap (λ o. is_some o)
    (find_row-without_row_same place_order place_of IsKeyOrder-place_order (place_of a) rows.actual)
free-without rows (row.Task t) = ap (λ o. is_some o) (find_row-without_row_same name_order task_name_of
    IsKeyOrder-name_order t.name rows.tasks)
free-without rows (row.Cell c) = ap (λ o. is_some o) (find_row-without_row_same name_order cell_name_of
    IsKeyOrder-name_order c.cell rows.cells)
free-without rows (row.Domain d) =
    ap (λ o. is_some o) (find_row-without_row_same name_order domain_name_of IsKeyOrder-name_order d.domain
    rows.domains)

says-put : (test : Bool) (r : Row) (old new : Rows) → has_place_of old r ≡ test → StandsIn new r
    → SaysSo (cond test Changed Created) r old new
says-put true r old new place stands = (place, stands)
says-put false r old new place stands = (place, stands)

module _ (rows : Rows) (now : Moment) where
  -- what is told of the attempt is true
  abbrev IsTold : Attempt → Type 0
  IsTold attempt = IfSome (events_in rows attempt) (AreTrue rows (changed_by rows attempt))

  told-put : (r : Row) → IsTold (put r)
  told-put r = record {
    between = advanced (with_row rows r);
    first = says-put (has_place_of rows r) r rows (advanced (with_row rows r)) refl
        (Stands-advanced (with_row rows r) r (Stands-with_row rows r));
    second = tt;
    alone = λ e. refl;
  }

  told-drop : (r : Row) → StandsIn rows r → IsTold (drop_row r)
  told-drop r stands = record {
    between = advanced (without_place_of rows r);
    first = (stands, free-without rows r);
    second = tt;
    alone = λ e. refl;
  }

  told-moved_to : (old : Task) (end : TaskEnd) → StandsIn rows (row.Task old) → IsTold (task_moved_to old end)
  told-moved_to old (end.Changed new) stands = told-put (row.Task new)
  told-moved_to old end.Gone stands = told-drop (row.Task old) stands
  told-moved_to old end.Same stands = tt
  told-moved_to old (end.Refused why) stands = tt

  told-moved : (asked : Op) (old : Task) (move : TaskMove) → (found_by rows asked).task ≡ Some old
      → IsTold (task_moved_to old (task_move old move now))
  told-moved asked old move known =
      told-moved_to old (task_move old move now) (there name_order task_name_of IsKeyOrder-name_order rows.tasks
      (task_in asked) old known)

  told-attempt : (asked : Op) → IsTold (attempt_at (found_by rows asked) now asked)
  told-attempt = each-attempt rows now (λ asked attempt. IsTold attempt) (λ asked why. tt) (λ asked. tt)
      (λ asked r is. told-put r) (λ asked r known. told-drop r (Stands-found rows asked r known))
      (λ asked place is aside refusals instance. each-keeps_aside IsTold (λ why. tt) tt place.1 aside refusals
      (found_by rows asked) instance now (λ old known runs passed.
      let kept = row.Actual (aside_row place.1 old) in
      let left = row.Actual (left_row old now) in
      let between = with_row rows kept in
      record {
        between = between;
        first = says-put (has_place_of rows kept) kept rows between refl (Stands-with_row rows kept);
        second = says-put (has_place_of between left) left between (advanced (with_row between left)) refl
            (Stands-advanced (with_row between left) left (Stands-with_row between left));
        alone = λ e. cc;
      }))
      (λ name memory disk tag. by_passing IsTold (λ why. tt)
      (new_task_refusals (found_by rows (op.NewTask name memory disk tag))) _ (λ passed. told-put _))
      (λ asked move. by_knowing IsTold (λ why. tt) (found_by rows asked).task
      (λ old. task_moved_to old (task_move old move now)) (λ old known. told-moved asked old move known))
      (λ asked epoch move. by_knowing IsTold (λ why. tt) (found_by rows asked).task
      (λ old. if_joined (found_by rows asked).cell epoch (λ c. task_moved_to old (task_move old move now)))
      (λ old known.
      by_joining IsTold (λ why. tt) (found_by rows asked).cell epoch (λ c. task_moved_to old (task_move old move now))
      (λ c joined same. told-moved asked old move known)))

pub tells_truth : (rows : Rows) (c : Command) → TellsTruth rows c
tells_truth rows c = told-attempt rows c.now c.op
