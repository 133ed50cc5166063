-- What is asked of the instances of processes leaves a valid board, request by request.
use Rattle.std.proofs.Common.{◌≡◌, ◌≢◌, ℕ, ◌<◌, true, cond, List, ◌++◌, length, Option, Some, None, refl, ap, sym, ◌∙◌, arith}
use Rattle.cell_records.specs.declared.cell_row.CellRow.{CellRow}
use Rattle.crash_backoff.specs.declared.moment.Moment.{Moment}
use Rattle.diego_names.specs.Order.{name_order}
use Rattle.diego_names.specs.declared.instance.Instance.{Instance}
use Rattle.diego_names.specs.declared.key.Key.{Key}
use Rattle.lrp_records.specs.Moves.{lrp_move}
use Rattle.lrp_records.specs.Place.{place_of, place_order}
use Rattle.lrp_records.specs.declared.actual.Actual.{Actual}
use Rattle.lrp_records.specs.declared.lrp_move.LrpMove.{LrpMove}
use Rattle.lrp_records.specs.declared.presence.Presence.{Presence}
use Rattle.lrp_records.specs.declared.presence.Presence.TheVariants.{Ordinary, Evacuating, Suspect}
use Rattle.lrp_records.specs.declared.state.LrpState.{LrpState}
use Rattle.lrp_records.specs.declared.state.LrpState.TheVariants as lrp
use Rattle.lrp_records.proofs.Public.{KeepsPlace-lrp_move, IsKeyOrder-place_order}
use Rattle.row_tables.specs.Table.{find_row, put_row, without_row}
use Rattle.row_tables.proofs.Public.{find_row-put_row_other}
use Rattle.bbs_model.specs.Attempts.{Refusals, if_known, if_joined, put, drop_row}
use Rattle.bbs_model.specs.Found.{found_by}
use Rattle.bbs_model.specs.Limits.{most_actual, most_transitions}
use Rattle.bbs_model.specs.Lrps.{new_row, domain_of, make_refusals, make, moved_to, is_running_as, aside_row, left_row, stays_because, aside_refusals, keeps_aside, drop_aside, evacuate, lease_refusals, suspect}
use Rattle.bbs_model.specs.Step.{changed_by}
use Rattle.bbs_model.specs.Tables.{cell_name_of, find_desired, find_actual, find_cell}
use Rattle.bbs_model.specs.Valid.{IsHeldBefore, IsRunning, SuitsPresence, AreActual, HasJoined, IsValid}
use Rattle.bbs_model.specs.declared.attempt.Attempt.{Attempt}
use Rattle.bbs_model.specs.declared.attempt.Attempt.TheVariants.{Refuse}
use Rattle.bbs_model.specs.declared.command.Op.TheVariants as op
use Rattle.bbs_model.specs.declared.event.Row.TheVariants as row
use Rattle.bbs_model.specs.declared.found.Found.{Found}
use Rattle.bbs_model.specs.declared.rows.Rows.{Rows}
use Rattle.bbs_laws.proofs.KeepActual.{brought_by, KeepsHeld-lrp_move, place-found, found-there, actual-found, with_actual, AreActual-put_known, suits-ordinary, IsValid-moved_to}
use Rattle.bbs_laws.proofs.KeepEach.{each-find_row}
use Rattle.bbs_laws.proofs.KeepSteps.{ArePassed, passed_later, room_from, below_from, by_test, by_passing, by_knowing, by_joining}
use Rattle.bbs_laws.proofs.KeepWalk.{each-keeps_aside}
use Rattle.bbs_laws.proofs.KeepTables.{AreActual-put, AreActual-without}

-- the cell that is found joined before
pub cell-found : (rows : Rows) (cell : List ℕ) (old : CellRow) → IsValid rows → find_cell rows cell ≡ Some old
    → old.epoch < rows.next
cell-found rows cell old valid known = each-find_row name_order cell_name_of
    (HasJoined rows.next) cell old rows.cells valid.cells.each known

-- no row aside is an ORDINARY one
pub evacuating-aside : Evacuating ≢ Ordinary
evacuating-aside same = cc

pub suspect-aside : Suspect ≢ Ordinary
suspect-aside same = cc

-- the place of the row in which an instance is kept aside
pub place-kept : (rows : Rows) (key : Key) (presence : Presence) (old : Actual)
    → find_actual rows key Ordinary ≡ Some old → place_of (aside_row presence old) ≡ (key, presence)
place-kept rows key presence old known = ap (λ (p : Key × Presence). (p.0, presence))
    (place-found rows key Ordinary old known)

-- its ORDINARY row is still found once the one aside was put
pub left-found : (rows : Rows) (key : Key) (presence : Presence) (old : Actual) (now : Moment) → presence ≢ Ordinary
    → find_actual rows key Ordinary ≡ Some old
    → find_row place_order place_of (place_of (left_row old now))
    (put_row place_order place_of (aside_row presence old) rows.actual) ≡ Some old
left-found rows key presence old now other known =
    let left : place_of (left_row old now) ≡ (key, Ordinary) = place-found rows key Ordinary old known in
    let apart : place_of (left_row old now) ≢ place_of (aside_row presence old) = λ same.
    other (sym (ap (λ (p : Key × Presence). p.1) (sym left ∙ same ∙ place-kept rows key presence old known))) in
    find_row-put_row_other place_order place_of IsKeyOrder-place_order (place_of (left_row old now))
    (aside_row presence old) rows.actual apart
    ∙ found-there rows key Ordinary old known

-- a state that runs in a container is RUNNING
running_from : (state : LrpState) (instance : Instance) → is_running_as state instance ≡ true → IsRunning state
running_from lrp.Unclaimed instance h = cc
running_from (lrp.Claimed held cell) instance h = cc
running_from (lrp.Running held cell) instance h = tt
running_from lrp.Crashed instance h = cc

-- a row aside is RUNNING if the ORDINARY row is, and has no error
suits-aside : (presence : Presence) (old : Actual) → IsRunning old.state
    → SuitsPresence presence (aside_row presence old)
suits-aside Ordinary old runs = tt
suits-aside Evacuating old runs = (runs, refl)
suits-aside Suspect old runs = (runs, refl)

module _ (rows : Rows) (valid : IsValid rows) (room : rows.next < most_transitions) where
  -- the rows are valid after the attempt
  abbrev Stays : Attempt → Type 0
  Stays attempt = IsValid (changed_by rows attempt)

  pub IsValid-make : (key : Key) (now : Moment) → IsValid (changed_by rows (make (found_by rows (op.Make key)) key now))
  IsValid-make key now =
      let new = new_row key (domain_of (find_desired rows key.process)) now in
      by_passing Stays (λ why. valid) (make_refusals (found_by rows (op.Make key)) key) (put (row.Actual new))
      (λ passed.
      with_actual rows (put_row place_order place_of new rows.actual) valid room
      (AreActual-put rows.next new rows.actual valid.actual (record { held = tt; suits = tt })
      (λ none. below_from most_actual (length rows.actual) passed.1.1.0)))

  -- a move on a row that is found
  IsValid-moved : (key : Key) (old : Actual) (move : LrpMove) (now : Moment) → find_actual rows key Ordinary ≡ Some old
      → IsHeldBefore rows.next (brought_by move) → IsValid (changed_by rows (moved_to old (lrp_move old move now)))
  IsValid-moved key old move now known brought =
      IsValid-moved_to rows old (lrp_move old move now) valid room (found-there rows key Ordinary old known)
      (ap (λ (p : Key × Presence). p.1) (place-found rows key Ordinary old known)) (KeepsPlace-lrp_move old move now)
      (KeepsHeld-lrp_move rows.next old move now (actual-found rows key Ordinary old valid known).held brought)

  pub IsValid-move_lrp : (key : Key) (move : LrpMove) (now : Moment) → IsHeldBefore rows.next (brought_by move)
      → IsValid (changed_by rows (if_known (find_actual rows key Ordinary)
      (λ old. moved_to old (lrp_move old move now))))
  IsValid-move_lrp key move now brought =
      by_knowing Stays (λ why. valid) (find_actual rows key Ordinary) (λ old. moved_to old (lrp_move old move now))
      (λ old known.
      IsValid-moved key old move now known brought)

  pub IsValid-move_lrp_by_cell : (key : Key) (instance : Instance) (cell : List ℕ) (move : LrpMove) (now : Moment)
      → (instance.epoch < rows.next → IsHeldBefore rows.next (brought_by move))
      → IsValid (changed_by rows (if_known (find_actual rows key Ordinary) (λ old.
      if_joined (find_cell rows cell) instance.epoch (λ c. moved_to old (lrp_move old move now)))))
  IsValid-move_lrp_by_cell key instance cell move now brought =
      by_knowing Stays (λ why. valid) (find_actual rows key Ordinary)
      (λ old. if_joined (find_cell rows cell) instance.epoch (λ c. moved_to old (lrp_move old move now)))
      (λ old known.
      by_joining Stays (λ why. valid) (find_cell rows cell) instance.epoch (λ c. moved_to old (lrp_move old move now))
      (λ joined there same.
      let before = cell-found rows cell joined valid there in
      let past : instance.epoch < rows.next = omega (arith, before, same) in
      IsValid-moved key old move now known (brought past)))

  -- an instance is kept aside, where the refusals leave room for its row
  IsValid-keeps_aside : (presence : Presence) (key : Key) (aside : Option Actual) (refusals : Refusals)
      (found : Found) (instance : Instance) (now : Moment) → presence ≢ Ordinary
      → found.ordinary ≡ find_actual rows key Ordinary
      → (ArePassed refusals → find_actual rows key presence ≡ None → length rows.actual < most_actual)
      → IsValid (changed_by rows (keeps_aside presence aside refusals found instance now))
  IsValid-keeps_aside presence key aside refusals found instance now other is free =
      each-keeps_aside Stays (λ why. valid) valid presence aside refusals found instance now (λ old is_old runs passed.
      let known : find_actual rows key Ordinary ≡ Some old = sym is ∙ is_old in
      let kept = aside_row presence old in
      let left = left_row old now in
      let there = actual-found rows key Ordinary old valid known in
      let first_table = put_row place_order place_of kept rows.actual in
      let first : AreActual rows.next first_table =
      AreActual-put rows.next kept rows.actual valid.actual
      (record { held = there.held; suits = suits-aside presence old (running_from old.state instance runs) })
      (λ none. free passed (ap (λ (p : Key × Presence). find_row place_order place_of p rows.actual)
      (sym (place-kept rows key presence old known)) ∙ none)) in
      let ordinary : left.presence ≡ Ordinary = ap (λ (p : Key × Presence). p.1)
      (place-found rows key Ordinary old known) in
      with_actual rows (put_row place_order place_of left first_table) valid room
      (AreActual-put_known rows.next left old first_table first
      (record { held = tt; suits = suits-ordinary left ordinary })
      (left-found rows key presence old now other known)))

  pub IsValid-evacuate : (key : Key) (instance : Instance) (now : Moment)
      → IsValid (changed_by rows (evacuate (found_by rows (op.Evacuate key instance)) instance now))
  IsValid-evacuate key instance now =
      let found = found_by rows (op.Evacuate key instance) in
      IsValid-keeps_aside Evacuating key found.evacuating (aside_refusals found.evacuating found) found instance now
      evacuating-aside refl (λ passed.
      room_from (find_actual rows key Evacuating) most_actual (length rows.actual) passed.0)

  pub IsValid-suspect : (key : Key) (instance : Instance) (now : Moment)
      → IsValid (changed_by rows (suspect (found_by rows (op.Suspect key instance)) instance now))
  IsValid-suspect key instance now =
      let found = found_by rows (op.Suspect key instance) in
      let lease = lease_refusals found.cell instance.epoch now in
      let room_left = aside_refusals found.suspect found in
      IsValid-keeps_aside Suspect key found.suspect (lease ++ room_left) found instance now suspect-aside refl
      (λ passed.
      room_from (find_actual rows key Suspect) most_actual (length rows.actual)
      (passed_later lease room_left passed).0)

  pub IsValid-drop_aside : (aside : Option Actual) (instance : Instance)
      → IsValid (changed_by rows (drop_aside aside instance))
  IsValid-drop_aside aside instance =
      let step = λ (old : Actual). cond (is_running_as old.state instance) (drop_row (row.Actual old))
      (Refuse (stays_because old.state instance)) in
      by_knowing Stays (λ why. valid) aside step (λ old known.
      by_test Stays (λ why. valid) (is_running_as old.state instance) (drop_row (row.Actual old))
      (Refuse (stays_because old.state instance))
      (λ runs. with_actual rows (without_row place_order place_of (place_of old) rows.actual) valid room
      (AreActual-without rows.next (place_of old) rows.actual valid.actual)) (λ rests. valid))
