-- A subject is asked for something exactly where one of its causes holds.
use Rattle.std.proofs.Common.{◌≡◌, ℕ, ◌+◌, Bool, true, false, cond, not, ◌&&◌, ◌||◌, List, [], ◌∷◌, nat_le, option_to_list, Option, Some, None, is_some, refl, ap, sym, subst, ◌∙◌}
use Rattle.std.specs.List.{AllByRecursion}
use Rattle.std.specs.Option.{option_and_then, option_map, option_map_or, unwrap_or}
use Rattle.std.specs.Ordering.{eq_by_cmp}
use Rattle.std.specs.declared.cmp.Ordering.{Ordering}
use Rattle.cell_records.specs.declared.cell_row.CellRow.{CellRow}
use Rattle.crash_backoff.specs.declared.moment.Moment.{Moment}
use Rattle.diego_names.specs.declared.key.Key.{Key}
use Rattle.lrp_records.proofs.Public.{IsKeyOrder-place_order}
use Rattle.lrp_records.specs.Place.{place_of, place_order}
use Rattle.lrp_records.specs.States.{holder_of}
use Rattle.lrp_records.specs.declared.actual.Actual.{Actual}
use Rattle.lrp_records.specs.declared.presence.Presence.{Presence}
use Rattle.lrp_records.specs.declared.presence.Presence.TheVariants.{Ordinary, Evacuating, Suspect}
use Rattle.lrp_records.specs.declared.state.LrpState.{LrpState}
use Rattle.lrp_records.specs.declared.state.LrpState.TheVariants as lrp
use Rattle.row_tables.specs.Table.{find_row}
use Rattle.row_tables.proofs.Public.{key-find_row}
use Rattle.task_records.specs.declared.state.TaskState.{TaskState}
use Rattle.task_records.specs.declared.state.TaskState.TheVariants as task
use Rattle.task_records.specs.declared.task.Task.{Task}
use Rattle.bbs_model.specs.Tables.{find_actual, find_cell, find_domain, find_task}
use Rattle.bbs_model.specs.Valid.{IsActualRow, IsRunning, IsValid, SuitsPresence}
use Rattle.bbs_model.specs.Work as told
use Rattle.bbs_model.specs.declared.command.Op.{Op}
use Rattle.bbs_model.specs.declared.command.Op.TheVariants as op
use Rattle.bbs_model.specs.declared.domain_row.DomainRow.{DomainRow}
use Rattle.bbs_model.specs.declared.rows.Rows.{Rows}
use Rattle.convergence.specs.Subjects.{Subject, OfCell, OfDomain, OfPlace, OfTask, OfProcess, work_on}
use Rattle.work_causes.specs.Causes.{any_holds_by, causes_of, dropped_if, end_causes, ends_of, evacuating_causes, first_of_two, going, holds_by, is_over, joined, lasting, lease_causes, lease_of, lost, ordinary_causes, replaced, state_cause, suspect_causes, task_cause, tried, tried_if}
use Rattle.work_causes.specs.declared.cause.Cause.{Cause}
use Rattle.work_causes.specs.declared.cause.Cause.TheVariants.{Always}
use Rattle.work_causes.specs.declared.cause.Term.TheVariants.{OfEpoch}
use Rattle.work_causes.proofs.Bools.{and_false, and_true, kept_bare, kept_crashed, kept_held, or_false, some_if}
use Rattle.work_causes.proofs.Parts.{any_if, any_of_three, due_by, goes, is_lost_by, joined_by, over, replaced_by, runs_by}

-- what holds of each row holds of the one that is found
each_found : {K X : Type 0} (R : K → K → Ordering) (key : X → K) (P : X → Type 0) (q : K) (x : X) (xs : List X)
    → AllByRecursion P xs → find_row R key q xs ≡ Some x → P x
each_found R key P q x [] h e = absurd cc
each_found R key P q x (y ∷ ys) h e =
    elim (eq_by_cmp R q (key y)) as (λ (b : Bool). cond b (Some y) (find_row R key q ys) ≡ Some x → P x) [
      | true ↦ λ is. let one : y ≡ x = ap (λ s. unwrap_or s x) is in subst P one h.0
      | false ↦ λ is. each_found R key P q x ys h.1 is
    ] e

-- a row that is found suits its presence
pub suits_found : (rows : Rows) → IsValid rows → (key : Key) (presence : Presence) (a : Actual)
    → find_actual rows key presence ≡ Some a → SuitsPresence presence a
suits_found rows v key presence a e =
    let row : IsActualRow rows.next a = each_found place_order place_of (IsActualRow rows.next)
    (key, presence) a rows.actual v.actual.each e in
    subst (λ (p : Presence). SuitsPresence p a) (ap (λ (p : Key × Presence). p.1)
    (key-find_row place_order place_of IsKeyOrder-place_order (key, presence) a rows.actual e)) row.suits

module _ (rows : Rows) (now : Moment) where
  -- one of the causes of a list holds
  abbrev any : List Cause → Bool
  any = any_holds_by (ends_of rows) now

  -- three tests
  ors : {a b c x y z : Bool} → a ≡ x → b ≡ y → c ≡ z → (a || (b || c)) ≡ (x || (y || z))
  ors p q r = λ i. p i || (q i || r i)

  of_going : (w : Bool) (a : Actual) → any (option_to_list (cond (not w) (Some (going a.domain)) None))
      ≡ (not w && told.may_go rows now a)
  of_going w a = any_if (ends_of rows) now (not w) (going a.domain) ∙ ap (λ (b : Bool). not w && b)
      (goes rows now a.domain)

  bare : (w : Bool) → any (option_to_list (cond w None None)) ≡ false
  bare true = refl
  bare false = refl

  crashed : (w : Bool) (a : Actual) → any (option_to_list (cond w (tried a lrp.Crashed) None))
      ≡ (w && told.is_due a now)
  crashed true a = due_by rows now a
  crashed false a = refl

  -- an ORDINARY row, by its state
  standing : (w : Bool) (key : Key) (a : Actual) (remove : Op) (s : LrpState)
      → is_some (cond (not w && told.may_go rows now a) (Some remove)
      (cond (told.is_lost rows now s) (told.given_up w key s) (cond w (told.restart_if_due key a now s) None)))
      ≡ ((not w && told.may_go rows now a) || (told.is_lost rows now s || any
      (option_to_list (cond w (tried a s) None))))
  standing w key a remove lrp.Unclaimed =
      kept_bare w (told.may_go rows now a) remove None ∙ ap
      (λ (b : Bool). (not w && told.may_go rows now a) || (false || b)) (sym (bare w))
  standing w key a remove (lrp.Claimed instance cell) =
      kept_held w (told.may_go rows now a) (told.is_there rows now cell instance.epoch) remove (op.Unclaim key instance)
      ∙ ap (λ (b : Bool). (not w && told.may_go rows now a) || (not (told.is_there rows now cell instance.epoch) || b))
      (sym (bare w))
  standing w key a remove (lrp.Running instance cell) =
      kept_held w (told.may_go rows now a) (told.is_there rows now cell instance.epoch) remove
      (cond w (op.Suspect key instance) (op.Unclaim key instance))
      ∙ ap (λ (b : Bool). (not w && told.may_go rows now a) || (not (told.is_there rows now cell instance.epoch) || b))
      (sym (bare w))
  standing w key a remove lrp.Crashed =
      kept_crashed w (told.may_go rows now a) (told.is_due a now) remove (op.Restart key) None
      ∙ ap (λ (b : Bool). (not w && told.may_go rows now a) || (false || b)) (sym (crashed w a))

  of_ordinary : (key : Key) (row : Option Actual) → is_some (told.ordinary_work rows now key row)
      ≡ any (ordinary_causes (told.wants rows key) row)
  of_ordinary key None =
      elim (told.wants rows key) as (λ (w : Bool). is_some (cond w (Some (op.Make key)) None)
      ≡ any (ordinary_causes w None)) [ true ↦ refl | false ↦ refl ]
  of_ordinary key (Some a) =
      let w = told.wants rows key in
      standing w key a (op.Remove key (holder_of a.state)) a.state
      ∙ sym (any_of_three (ends_of rows) now (cond (not w) (Some (going a.domain)) None) (lost a.state) (tried_if w a)
      ∙ ors (of_going w a) (is_lost_by rows now a.state) refl)

  -- a row aside is RUNNING, so that it is dropped where a test passes
  dropped_row : (b : Bool) (key : Key) (s : LrpState) → IsRunning s → is_some (cond b (told.drop_row_of key s) None) ≡ b
  dropped_row b key lrp.Unclaimed r = absurd r
  dropped_row b key (lrp.Claimed instance cell) r = absurd r
  dropped_row b key (lrp.Running instance cell) r = some_if b (op.DropEvacuating key instance)
  dropped_row b key lrp.Crashed r = absurd r

  dropped_suspect : (b : Bool) (key : Key) (s : LrpState) → IsRunning s
      → is_some (cond b (told.drop_suspect_of key s) None) ≡ b
  dropped_suspect b key lrp.Unclaimed r = absurd r
  dropped_suspect b key (lrp.Claimed instance cell) r = absurd r
  dropped_suspect b key (lrp.Running instance cell) r = some_if b (op.DropSuspect key instance)
  dropped_suspect b key lrp.Crashed r = absurd r

  or_assoc : (a b c : Bool) → ((a || b) || c) ≡ (a || (b || c))
  or_assoc true b c = refl
  or_assoc false b c = refl

  of_evacuating : (key : Key) (a : Actual) → IsRunning a.state
      → is_some (told.evacuating_work rows now key (Some a))
      ≡ any (evacuating_causes (told.wants rows key) (find_actual rows key Ordinary) (Some a))
  of_evacuating key a running =
      let w = told.wants rows key in
      let ordinary = find_actual rows key Ordinary in
      dropped_row (told.is_spent rows now key a) key a.state running
      ∙ or_assoc (told.is_retirable rows now key a) (told.is_lost rows now a.state) (told.runs_there rows now ordinary)
      ∙ sym (any_of_three (ends_of rows) now (cond (not w) (Some (going a.domain)) None) (lost a.state)
      (replaced ordinary)
      ∙ ors (of_going w a) (is_lost_by rows now a.state) (replaced_by rows now ordinary))

  -- the SUSPECT row of a wanted instance, by the state of the ORDINARY row
  beside_state : (o s : LrpState) → any (option_to_list (first_of_two (lasting o) (joined s)))
      ≡ (told.runs_in rows now o || (told.has_joined_anew rows s && not (told.is_running o)))
  beside_state lrp.Unclaimed s = joined_by rows now s ∙ sym (and_true (told.has_joined_anew rows s))
  beside_state (lrp.Claimed instance cell) s = joined_by rows now s ∙ sym (and_true (told.has_joined_anew rows s))
  beside_state (lrp.Running instance cell) s =
      runs_by rows now (lrp.Running instance cell)
      ∙ sym (ap (λ (b : Bool). told.is_there rows now cell instance.epoch || b)
      (and_false (told.has_joined_anew rows s)) ∙ or_false (told.is_there rows now cell instance.epoch))
  beside_state lrp.Crashed s = joined_by rows now s ∙ sym (and_true (told.has_joined_anew rows s))

  beside : (row : Option Actual) (s : LrpState) → any (option_to_list (first_of_two (replaced row) (joined s)))
      ≡ (told.runs_there rows now row || (told.has_joined_anew rows s && not (told.runs row)))
  beside None s = joined_by rows now s ∙ sym (and_true (told.has_joined_anew rows s))
  beside (Some a) s = beside_state a.state s

  past : (w : Bool) (ordinary : Option Actual) (a : Actual)
      → ((not w || told.runs_there rows now ordinary) || (told.has_joined_anew rows a.state && not
      (told.runs ordinary))) ≡ any (suspect_causes w ordinary (Some a))
  past true ordinary a =
      sym (any_of_three (ends_of rows) now None (first_of_two (replaced ordinary) (joined a.state)) None
      ∙ or_false (any (option_to_list (first_of_two (replaced ordinary) (joined a.state)))) ∙ beside ordinary a.state)
  past false ordinary a = refl

  of_suspect : (key : Key) (a : Actual) → IsRunning a.state
      → is_some (told.suspect_work rows now key (Some a)) ≡ any
      (suspect_causes (told.wants rows key) (find_actual rows key Ordinary) (Some a))
  of_suspect key a running =
      dropped_suspect (told.is_past rows now key a) key a.state running ∙ past (told.wants rows key)
      (find_actual rows key Ordinary) a

  of_place : IsValid rows → (place : Key × Presence) → is_some (told.place_work rows now place)
      ≡ any (causes_of rows (OfPlace place))
  of_place v (key, Ordinary) = of_ordinary key (find_actual rows key Ordinary)
  of_place v (key, Evacuating) =
      elim (find_actual rows key Evacuating) as (λ (s : Option Actual). find_actual rows key Evacuating ≡ s
      → is_some (told.evacuating_work rows now key s)
      ≡ any (evacuating_causes (told.wants rows key) (find_actual rows key Ordinary) s)) [
        | None ↦ λ is. refl
        | (Some a) ↦ λ is. of_evacuating key a (suits_found rows v key Evacuating a is).0
      ] refl
  of_place v (key, Suspect) =
      elim (find_actual rows key Suspect) as (λ (s : Option Actual). find_actual rows key Suspect ≡ s
      → is_some (told.suspect_work rows now key s)
      ≡ any (suspect_causes (told.wants rows key) (find_actual rows key Ordinary) s)) [
        | None ↦ λ is. refl
        | (Some a) ↦ λ is. of_suspect key a (suits_found rows v key Suspect a is).0
      ] refl

  from_second : (second : ℕ) (x : Op) → is_some (cond (nat_le second now.0) (Some x) None)
      ≡ (nat_le second now.0 || false)
  from_second second x = some_if (nat_le second now.0) x ∙ sym (or_false (nat_le second now.0))

  of_task_state : (t : Task) (s : TaskState) → is_some (told.asked_of_task rows now t s)
      ≡ any (option_to_list (Some (state_cause t.since s)))
  of_task_state t task.Pending = from_second (t.since.0 + 1800) (op.CancelTask t.name)
  of_task_state t (task.Running instance cell) =
      some_if (not (told.is_there rows now cell instance.epoch)) (op.CancelTask t.name)
      ∙ sym (or_false (is_over (ends_of rows) now (OfEpoch cell instance.epoch)) ∙ over rows now cell instance.epoch)
  of_task_state t (task.Completed failed) = from_second (t.since.0 + 120) (op.ExpireTask t.name)
  of_task_state t (task.Resolving failed) = from_second (t.since.0 + 30) (op.KickTask t.name)

  of_task : (row : Option Task) → is_some (option_and_then (told.task_work rows now) row)
      ≡ any (option_to_list (option_map task_cause row))
  of_task None = refl
  of_task (Some t) = of_task_state t t.state

  of_cell : (row : Option CellRow) → is_some (option_and_then (λ (c : CellRow). told.cell_work c now) row)
      ≡ any (lease_causes (option_map lease_of row))
  of_cell None = refl
  of_cell (Some c) = from_second c.until (op.Vanish c.cell)

  of_end : (d : DomainRow) (until : Option ℕ) → is_some (option_and_then
      (λ (second : ℕ). told.asked_if (nat_le second now.0) (op.Forget d.domain)) until) ≡ any (end_causes (Some until))
  of_end d None = refl
  of_end d (Some second) = from_second second (op.Forget d.domain)

  of_domain : (row : Option DomainRow) → is_some (option_and_then (λ (d : DomainRow). told.domain_work d now) row)
      ≡ any (end_causes (option_map (λ (d : DomainRow). d.until) row))
  of_domain None = refl
  of_domain (Some d) = of_end d d.until

  pub tell : (s : Subject) → IsValid rows → is_some (work_on rows now s) ≡ any (causes_of rows s)
  tell (OfCell cell) v = of_cell (find_cell rows cell)
  tell (OfDomain name) v = of_domain (find_domain rows name)
  tell (OfPlace place) v = of_place v place
  tell (OfTask name) v = of_task (find_task rows name)
  tell (OfProcess process) v = refl
