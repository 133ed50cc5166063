-- What an accepted command leaves of its row.
use Rattle.std.proofs.Common.{◌≡◌, ℕ, ◌++◌, not, ◌&&◌, Bool, true, false, cond, List, Option, Some, None, ap, sym, subst, ◌∙◌}
use Rattle.cell_records.specs.declared.cell_row.CellRow.{CellRow}
use Rattle.crash_backoff.specs.declared.moment.Moment.{Moment}
use Rattle.diego_names.specs.declared.instance.Instance.{Instance}
use Rattle.diego_names.specs.declared.key.Key.{Key}
use Rattle.lrp_records.proofs.Public.{KeepsPlace-lrp_move, KeepsDomain-lrp_move, IsKeyOrder-place_order}
use Rattle.lrp_records.specs.Laws.{KeepsPlace, KeepsDomain}
use Rattle.lrp_records.specs.Moves.{lrp_move}
use Rattle.lrp_records.specs.Place.{place_of, place_order}
use Rattle.lrp_records.specs.declared.actual.Actual.{Actual}
use Rattle.lrp_records.specs.declared.lrp_move.LrpMove.{LrpMove}
use Rattle.lrp_records.specs.declared.lrp_move.LrpMove.TheVariants as lrp
use Rattle.lrp_records.specs.declared.move_end.MoveEnd.{MoveEnd}
use Rattle.lrp_records.specs.declared.move_end.MoveEnd.TheVariants as end
use Rattle.lrp_records.specs.declared.presence.Presence.TheVariants.{Ordinary, Evacuating, Suspect}
use Rattle.row_tables.specs.Table.{find_row, put_row, without_row}
use Rattle.row_tables.proofs.Public.{key-find_row, find_row-put_row_same, find_row-without_row_same}
use Rattle.bbs_model.specs.Attempts.{if_known, if_joined, unless_refused, put, drop_row}
use Rattle.bbs_model.specs.Found.{found_by}
use Rattle.bbs_model.specs.Lrps.{moved_to, make_refusals, new_row, domain_of, is_running_as, runs_as, stays_because, aside_row, left_row, lease_refusals, aside_refusals, set_aside, keeps_aside}
use Rattle.bbs_model.specs.Runs.{state_after}
use Rattle.bbs_model.specs.Step.{attempt_of, changed_by, verdict_of}
use Rattle.bbs_model.specs.Tables.{find_actual, find_cell}
use Rattle.bbs_model.specs.Work.{at}
use Rattle.bbs_model.specs.declared.attempt.Attempt.{Attempt}
use Rattle.bbs_model.specs.declared.attempt.Attempt.TheVariants.{Refuse, Keep}
use Rattle.bbs_model.specs.declared.command.Command.{Command}
use Rattle.bbs_model.specs.declared.command.Op.TheVariants as op
use Rattle.bbs_model.specs.declared.event.Row.TheVariants as row
use Rattle.bbs_model.specs.declared.rows.Rows.{Rows}
use Rattle.bbs_laws.proofs.Public.{by_passing, by_knowing, by_joining, by_test}
use Rattle.converge_laws.specs.Accepted.{IsAccepted}
use Rattle.converge_laws.proofs.Frames.{IsTried, tried, state_is, and_false}

-- the row after the end of a move
abbrev pub left_by : Actual → MoveEnd → Option Actual
left_by old (end.Changed new) = Some new
left_by old end.Gone = None
left_by old end.Same = Some old
left_by old (end.Refused because) = Some old

-- the row that a move leaves has the domain that it had
domain-end : (old new : Actual) (e : MoveEnd) → KeepsDomain old e → left_by old e ≡ Some new → new.domain ≡ old.domain
domain-end old new (end.Changed row') keeps is = let same : row' ≡ new = cc in
    ap (λ (a : Actual). a.domain) (sym same) ∙ keeps
domain-end old new end.Gone keeps is = absurd cc
domain-end old new end.Same keeps is = let same : old ≡ new = cc in ap (λ (a : Actual). a.domain) (sym same)
domain-end old new (end.Refused because) keeps is = let same : old ≡ new = cc in
    ap (λ (a : Actual). a.domain) (sym same)

pub domain-left : (old new : Actual) (move : LrpMove) (now : Moment) → left_by old (lrp_move old move now) ≡ Some new
    → new.domain ≡ old.domain
domain-left old new move now is = domain-end old new (lrp_move old move now) (KeepsDomain-lrp_move old move now) is

-- the move isn't refused
abbrev pub IsTaken : MoveEnd → Type 0
IsTaken (end.Changed new) = Unit {0}
IsTaken end.Gone = Unit {0}
IsTaken end.Same = Unit {0}
IsTaken (end.Refused because) = ⊥

-- a move was made on the ORDINARY row of an instance
pub record IsMoved (rows : Rows) (key : Key) (move : LrpMove) (now : Moment) (new : Rows) : Type 0 where
  pub old : Actual
  pub found : find_actual rows key Ordinary ≡ Some old
  pub taken : IsTaken (lrp_move old move now)
  pub after : find_actual new key Ordinary ≡ left_by old (lrp_move old move now)

module _ (rows : Rows) (key : Key) (old : Actual) (found : find_actual rows key Ordinary ≡ Some old) where
  place-is : place_of old ≡ (key, Ordinary)
  place-is = key-find_row place_order place_of IsKeyOrder-place_order (key, Ordinary) old rows.actual found

  moved-end : (e : MoveEnd) → KeepsPlace old e → IsTried (moved_to old e)
      → IsTaken e × (find_actual (changed_by rows (moved_to old e)) key Ordinary ≡ left_by old e)
  moved-end (end.Changed new) place h = (
    tt,
    subst (λ p. find_row place_order place_of p (put_row place_order place_of new rows.actual) ≡ Some new)
        (place ∙ place-is)
        (find_row-put_row_same place_order place_of IsKeyOrder-place_order new rows.actual),
  )
  moved-end end.Gone place h = (
    tt,
    subst (λ p. find_row place_order place_of p (without_row place_order place_of (place_of old) rows.actual) ≡ None)
        place-is
        (find_row-without_row_same place_order place_of IsKeyOrder-place_order (place_of old) rows.actual),
  )
  moved-end end.Same place h = (tt, found)
  moved-end (end.Refused because) place h = absurd h

-- what holds of each attempt that isn't refused
abbrev pub IfTried : (Attempt → Type 0) → Attempt → Type 0
IfTried P attempt = IsTried attempt → P attempt

module _ (rows : Rows) (key : Key) (move : LrpMove) (now : Moment) where
  moved-known : (old : Actual) → find_actual rows key Ordinary ≡ Some old
      → IfTried (λ attempt. IsMoved rows key move now (changed_by rows attempt)) (moved_to old (lrp_move old move now))
  moved-known old found h =
      let made = moved-end rows key old found (lrp_move old move now) (KeepsPlace-lrp_move old move now) h in
      record { old = old; found = found; taken = made.0; after = made.1 }

  pub moved : let attempt = if_known (find_actual rows key Ordinary) (λ old. moved_to old (lrp_move old move now)) in
      IsTried attempt → IsMoved rows key move now (changed_by rows attempt)
  moved =
      by_knowing (IfTried (λ attempt. IsMoved rows key move now (changed_by rows attempt))) (λ because h. absurd h)
      (find_actual rows key Ordinary) (λ old. moved_to old (lrp_move old move now)) (λ old found. moved-known old found)

  pub moved-by_cell : (cell : Option CellRow) (epoch : ℕ) →
      let attempt = if_known (find_actual rows key Ordinary)
      (λ old. if_joined cell epoch (λ c. moved_to old (lrp_move old move now))) in
      IsTried attempt → IsMoved rows key move now (changed_by rows attempt)
  moved-by_cell cell epoch =
      let P = IfTried (λ attempt. IsMoved rows key move now (changed_by rows attempt)) in
      by_knowing P (λ because h. absurd h) (find_actual rows key Ordinary)
      (λ old. if_joined cell epoch (λ c. moved_to old (lrp_move old move now))) (λ old found.
      by_joining P (λ because h. absurd h) cell epoch (λ c. moved_to old (lrp_move old move now))
      (λ c joined same. moved-known old found))

-- what holds of the rows after an accepted command, from what holds of its attempt
pub by_attempt : (P : Rows → Type 0) (rows : Rows) (c : Command) → IsAccepted (verdict_of rows c)
    → (IsTried (attempt_of rows c) → P (changed_by rows (attempt_of rows c))) → P (state_after rows c)
by_attempt P rows c h f = subst P (sym (state_is rows c h)) (f (tried rows.next (attempt_of rows c) h))

module _ (rows : Rows) (now : Moment) (key : Key) where
  pub after-unclaim : (instance : Instance) → IsAccepted (verdict_of rows (at now (op.Unclaim key instance)))
      → IsMoved rows key (lrp.Unclaim instance) now (state_after rows (at now (op.Unclaim key instance)))
  after-unclaim instance h = by_attempt (IsMoved rows key (lrp.Unclaim instance) now) rows
      (at now (op.Unclaim key instance)) h (moved rows key (lrp.Unclaim instance) now)

  pub after-crash : (instance : Instance) → IsAccepted (verdict_of rows (at now (op.Crash key instance)))
      → IsMoved rows key (lrp.Crash instance) now (state_after rows (at now (op.Crash key instance)))
  after-crash instance h = by_attempt (IsMoved rows key (lrp.Crash instance) now) rows
      (at now (op.Crash key instance)) h (moved rows key (lrp.Crash instance) now)

  pub after-restart : IsAccepted (verdict_of rows (at now (op.Restart key)))
      → IsMoved rows key lrp.Restart now (state_after rows (at now (op.Restart key)))
  after-restart h = by_attempt (IsMoved rows key lrp.Restart now) rows (at now (op.Restart key)) h
      (moved rows key lrp.Restart now)

  pub after-remove : (holder : Option Instance) → IsAccepted (verdict_of rows (at now (op.Remove key holder)))
      → IsMoved rows key (lrp.Remove holder) now (state_after rows (at now (op.Remove key holder)))
  after-remove holder h = by_attempt (IsMoved rows key (lrp.Remove holder) now) rows (at now (op.Remove key holder)) h
      (moved rows key (lrp.Remove holder) now)

  pub after-claim : (instance : Instance) (cell : List ℕ)
      → IsAccepted (verdict_of rows (at now (op.Claim key instance cell)))
      → IsMoved rows key (lrp.Claim instance cell) now (state_after rows (at now (op.Claim key instance cell)))
  after-claim instance cell h =
      by_attempt (IsMoved rows key (lrp.Claim instance cell) now) rows (at now (op.Claim key instance cell)) h
      (moved-by_cell rows key (lrp.Claim instance cell) now (find_cell rows cell) instance.epoch)

  -- an instance's row as it begins, in the domain of its process
  abbrev pub beginning : Actual
  beginning = new_row key (domain_of (found_by rows (op.Make key)).desired) now

  -- a wanted instance has its row as it begins
  pub after-make : IsAccepted (verdict_of rows (at now (op.Make key)))
      → find_actual (state_after rows (at now (op.Make key))) key Ordinary ≡ Some beginning
  after-make h =
      by_attempt (λ new. find_actual new key Ordinary ≡ Some beginning) rows (at now (op.Make key)) h
      (by_passing (IfTried (λ attempt. find_actual (changed_by rows attempt) key Ordinary ≡ Some beginning))
      (λ because f. absurd f)
      (make_refusals (found_by rows (op.Make key)) key) (put (row.Actual beginning))
      (λ passed f. find_row-put_row_same place_order place_of IsKeyOrder-place_order beginning rows.actual))

  -- a suspected instance that runs is placed anew
  pub after-suspect : (instance : Instance) (a : Actual) → find_actual rows key Ordinary ≡ Some a
      → is_running_as a.state instance ≡ true
      → IsAccepted (verdict_of rows (at now (op.Suspect key instance)))
      → find_actual (state_after rows (at now (op.Suspect key instance))) key Ordinary ≡ Some (left_row a now)
  after-suspect instance a found runs h =
      let c : Command = at now (op.Suspect key instance) in
      let f = found_by rows (op.Suspect key instance) in
      let Q : Rows → Type 0 = λ new. find_actual new key Ordinary ≡ Some (left_row a now) in
      let P = IfTried (λ attempt. Q (changed_by rows attempt)) in
      let refusals = lease_refusals f.cell instance.epoch now ++ aside_refusals f.suspect f in
      let place : place_of a ≡ (key, Ordinary) = key-find_row place_order place_of IsKeyOrder-place_order
      (key, Ordinary) a rows.actual found in
      let set : Q (changed_by rows (set_aside Suspect a now)) =
      subst (λ p. find_row place_order place_of p (put_row place_order place_of (left_row a now)
      (put_row place_order place_of (aside_row Suspect a) rows.actual)) ≡ Some (left_row a now)) place
      (find_row-put_row_same place_order place_of IsKeyOrder-place_order (left_row a now)
      (put_row place_order place_of (aside_row Suspect a) rows.actual)) in
      let passes : P (unless_refused refusals (set_aside Suspect a now)) =
      by_passing P (λ because g. absurd g) refusals (set_aside Suspect a now) (λ passed g. set) in
      let runs' : runs_as (find_actual rows key Ordinary) instance ≡ true =
      ap (λ (o : Option Actual). runs_as o instance) found ∙ runs in
      let test : (runs_as f.suspect instance && not (runs_as f.ordinary instance)) ≡ false =
      ap (λ (b : Bool). runs_as f.suspect instance && not b) runs' ∙ and_false (runs_as f.suspect instance) in
      let same : keeps_aside Suspect f.suspect refusals f instance now
      ≡ unless_refused refusals (set_aside Suspect a now) =
      ap (λ (b : Bool). cond b Keep (if_known f.ordinary (λ old.
      cond (is_running_as old.state instance) (unless_refused refusals (set_aside Suspect old now))
      (Refuse (stays_because old.state instance))))) test
      ∙ ap (λ (o : Option Actual). if_known o (λ old. cond (is_running_as old.state instance)
      (unless_refused refusals (set_aside Suspect old now)) (Refuse (stays_because old.state instance)))) found
      ∙ ap (λ (b : Bool). cond b (unless_refused refusals (set_aside Suspect a now))
      (Refuse (stays_because a.state instance))) runs in
      by_attempt Q rows c h (subst P (sym same) passes)

  -- a SUSPECT row is gone
  pub after-drop_suspect : (instance : Instance) → IsAccepted (verdict_of rows (at now (op.DropSuspect key instance)))
      → find_actual (state_after rows (at now (op.DropSuspect key instance))) key Suspect ≡ None
  after-drop_suspect instance h =
      let c : Command = at now (op.DropSuspect key instance) in
      let P = IfTried (λ attempt. find_actual (changed_by rows attempt) key Suspect ≡ None) in
      by_attempt (λ new. find_actual new key Suspect ≡ None) rows c h
      (by_knowing P (λ because f. absurd f) (find_actual rows key Suspect)
      (λ old. cond (is_running_as old.state instance) (drop_row (row.Actual old))
      (Refuse (stays_because old.state instance))) (λ old found.
      by_test P (λ because f. absurd f) (is_running_as old.state instance) (drop_row (row.Actual old))
      (Refuse (stays_because old.state instance))
      (λ runs f.
      let place : place_of old ≡ (key, Suspect) = key-find_row place_order place_of IsKeyOrder-place_order
      (key, Suspect) old rows.actual found in
      subst (λ p. find_row place_order place_of p (without_row place_order place_of (place_of old) rows.actual) ≡ None)
      place
      (find_row-without_row_same place_order place_of IsKeyOrder-place_order (place_of old) rows.actual))
      (λ other f. absurd f)))

  -- an EVACUATING row is gone
  pub after-drop : (instance : Instance) → IsAccepted (verdict_of rows (at now (op.DropEvacuating key instance)))
      → find_actual (state_after rows (at now (op.DropEvacuating key instance))) key Evacuating ≡ None
  after-drop instance h =
      let c : Command = at now (op.DropEvacuating key instance) in
      let P = IfTried (λ attempt. find_actual (changed_by rows attempt) key Evacuating ≡ None) in
      by_attempt (λ new. find_actual new key Evacuating ≡ None) rows c h
      (by_knowing P (λ because f. absurd f) (find_actual rows key Evacuating)
      (λ old. cond (is_running_as old.state instance) (drop_row (row.Actual old))
      (Refuse (stays_because old.state instance))) (λ old found.
      by_test P (λ because f. absurd f) (is_running_as old.state instance) (drop_row (row.Actual old))
      (Refuse (stays_because old.state instance))
      (λ runs f.
      let place : place_of old ≡ (key, Evacuating) = key-find_row place_order place_of IsKeyOrder-place_order
      (key, Evacuating) old rows.actual found in
      subst (λ p. find_row place_order place_of p (without_row place_order place_of (place_of old) rows.actual) ≡ None)
      place
      (find_row-without_row_same place_order place_of IsKeyOrder-place_order (place_of old) rows.actual))
      (λ other f. absurd f)))
