-- What the commands that rows ask for do to their rows.
use Rattle.std.proofs.Common.{◌≡◌, ◌⊎◌, ℕ, Bool, true, false, cond, not, ◌&&◌, List, Option, Some, None, nat_le, nat_lt, refl, ap, sym, subst, ◌∙◌, inr, ⊎_elim, arith}
use Rattle.std.specs.Option.{option_and_then, option_map, option_map_or}
use Rattle.cell_records.specs.declared.cell_row.CellRow.{CellRow}
use Rattle.crash_backoff.specs.declared.moment.Moment.{Moment}
use Rattle.diego_names.proofs.Public.{IsKeyOrder-name_order}
use Rattle.diego_names.specs.Order.{name_order}
use Rattle.diego_names.specs.declared.instance.Instance.{Instance}
use Rattle.diego_names.specs.declared.key.Key.{Key}
use Rattle.lrp_records.specs.States.{holder_of}
use Rattle.lrp_records.specs.declared.actual.Actual.{Actual}
use Rattle.lrp_records.specs.declared.presence.Presence.TheVariants.{Ordinary, Evacuating, Suspect}
use Rattle.lrp_records.specs.declared.lrp_move.LrpMove.{LrpMove}
use Rattle.lrp_records.specs.declared.lrp_move.LrpMove.TheVariants as move
use Rattle.lrp_records.specs.declared.state.LrpState.{LrpState}
use Rattle.lrp_records.specs.declared.state.LrpState.TheVariants as lrp
use Rattle.lrp_records.specs.Moves.{lrp_move}
use Rattle.row_tables.specs.Table.{find_row, without_row}
use Rattle.row_tables.proofs.Public.{key-find_row, find_row-without_row_same}
use Rattle.task_records.specs.declared.state.TaskState.{TaskState}
use Rattle.task_records.specs.declared.state.TaskState.TheVariants as task
use Rattle.task_records.specs.declared.task.Task.{Task}
use Rattle.bbs_model.specs.Attempts.{if_known, drop_row}
use Rattle.bbs_model.specs.Cells.{vanish}
use Rattle.bbs_model.specs.Domains.{holds_at, told_end}
use Rattle.bbs_model.specs.Lrps.{is_running_as, left_row}
use Rattle.bbs_model.specs.Runs.{state_after}
use Rattle.bbs_model.specs.Step.{changed_by, verdict_of}
use Rattle.bbs_model.specs.Tables.{cell_name_of, domain_name_of, find_actual, find_cell, find_domain, find_task}
use Rattle.bbs_model.specs.Valid.{IsValid}
use Rattle.bbs_model.specs.Work as told
use Rattle.bbs_model.specs.declared.attempt.Attempt.{Attempt}
use Rattle.bbs_model.specs.declared.attempt.Attempt.TheVariants.{Refuse}
use Rattle.bbs_model.specs.declared.command.Op.{Op}
use Rattle.bbs_model.specs.declared.command.Op.TheVariants as op
use Rattle.bbs_model.specs.declared.domain_row.DomainRow.{DomainRow}
use Rattle.bbs_model.specs.declared.event.Row.TheVariants as row
use Rattle.bbs_model.specs.declared.rows.Rows.{Rows}
use Rattle.bbs_model.specs.declared.verdict.BoardRefusal.TheVariants.{LeaseHolds}
use Rattle.convergence.specs.Subjects.{Subject, OfCell, OfDomain, OfPlace, OfTask, OfProcess, subject_in, work_on}
use Rattle.convergence.proofs.Public.{work_is_by_subject}
use Rattle.converge_laws.proofs.Naming.{instance_itself}
use Rattle.converge_laws.specs.Accepted.{IsAccepted, IsOfRound}
use Rattle.converge_laws.specs.Laws.{AreOfRound}
use Rattle.converge_laws.proofs.Frames.{IsTried}
use Rattle.converge_laws.proofs.MoveEnds.{IsUnclaimed, removed, unclaimed, restarted, late}
use Rattle.converge_laws.proofs.Moves.{beginning, IsMoved, IsTaken, left_by, domain-left, by_attempt, after-make, after-remove, after-unclaim, after-restart, after-suspect, after-drop_suspect, after-drop}
use Rattle.converge_laws.proofs.TaskMoves.{HasEnded, after-cancel, after-kick, after-expire, has-cancelled, has-kicked, has-expired}

-- what holds of the command that is asked, if one is
abbrev pub IfAsked : (Op → Type 0) → Option Op → Type 0
IfAsked P None = Unit {0}
IfAsked P (Some o) = P o

pub asked_either : (P : Op → Type 0) (b : Bool) (x y : Option Op) → IfAsked P x → IfAsked P y → IfAsked P (cond b x y)
asked_either P true x y f g = f
asked_either P false x y f g = g

-- what is asked by the rows alone is of a round
round-given_up : (wanted : Bool) (key : Key) (s : LrpState) → IfAsked IsOfRound (told.given_up wanted key s)
round-given_up wanted key lrp.Unclaimed = tt
round-given_up wanted key (lrp.Claimed instance cell) = tt
round-given_up true key (lrp.Running instance cell) = tt
round-given_up false key (lrp.Running instance cell) = tt
round-given_up wanted key lrp.Crashed = tt

round-drop : (key : Key) (s : LrpState) → IfAsked IsOfRound (told.drop_row_of key s)
round-drop key lrp.Unclaimed = tt
round-drop key (lrp.Claimed instance cell) = tt
round-drop key (lrp.Running instance cell) = tt
round-drop key lrp.Crashed = tt

round-drop_suspect : (key : Key) (s : LrpState) → IfAsked IsOfRound (told.drop_suspect_of key s)
round-drop_suspect key lrp.Unclaimed = tt
round-drop_suspect key (lrp.Claimed instance cell) = tt
round-drop_suspect key (lrp.Running instance cell) = tt
round-drop_suspect key lrp.Crashed = tt

round-restart : (key : Key) (a : Actual) (now : Moment) (s : LrpState)
    → IfAsked IsOfRound (told.restart_if_due key a now s)
round-restart key a now lrp.Unclaimed = tt
round-restart key a now (lrp.Claimed instance cell) = tt
round-restart key a now (lrp.Running instance cell) = tt
round-restart key a now lrp.Crashed = asked_either IsOfRound (told.is_due a now) (Some (op.Restart key)) None tt tt

round-ordinary : (rows : Rows) (now : Moment) (key : Key) (o : Option Actual)
    → IfAsked IsOfRound (told.ordinary_work rows now key o)
round-ordinary rows now key None = asked_either IsOfRound (told.wants rows key) (Some (op.Make key)) None tt tt
round-ordinary rows now key (Some a) =
    let again = cond (told.wants rows key) (told.restart_if_due key a now a.state) None in
    let given = told.given_up (told.wants rows key) key a.state in
    asked_either IsOfRound (told.is_retirable rows now key a) (Some (op.Remove key (holder_of a.state)))
    (cond (told.is_lost rows now a.state) given again) tt
    (asked_either IsOfRound (told.is_lost rows now a.state) given again
    (round-given_up (told.wants rows key) key a.state)
    (asked_either IsOfRound (told.wants rows key) (told.restart_if_due key a now a.state) None
    (round-restart key a now a.state) tt))

round-evacuating : (rows : Rows) (now : Moment) (key : Key) (o : Option Actual)
    → IfAsked IsOfRound (told.evacuating_work rows now key o)
round-evacuating rows now key None = tt
round-evacuating rows now key (Some a) = asked_either IsOfRound (told.is_spent rows now key a)
    (told.drop_row_of key a.state) None (round-drop key a.state) tt

round-suspect : (rows : Rows) (now : Moment) (key : Key) (o : Option Actual)
    → IfAsked IsOfRound (told.suspect_work rows now key o)
round-suspect rows now key None = tt
round-suspect rows now key (Some a) = asked_either IsOfRound (told.is_past rows now key a)
    (told.drop_suspect_of key a.state) None (round-drop_suspect key a.state) tt

round-state : (rows : Rows) (now : Moment) (t : Task) (s : TaskState)
    → IfAsked IsOfRound (told.asked_of_task rows now t s)
round-state rows now t task.Pending = asked_either IsOfRound (told.has_passed 1800 t.since now)
    (Some (op.CancelTask t.name)) None tt tt
round-state rows now t (task.Running instance cell) = asked_either IsOfRound
    (not (told.is_there rows now cell instance.epoch)) (Some (op.CancelTask t.name)) None tt tt
round-state rows now t (task.Completed failed) = asked_either IsOfRound (told.has_passed 120 t.since now)
    (Some (op.ExpireTask t.name)) None tt tt
round-state rows now t (task.Resolving failed) = asked_either IsOfRound (told.has_passed 30 t.since now)
    (Some (op.KickTask t.name)) None tt tt

pub asked-then : {X : Type 0} (P : Op → Type 0) (f : X → Option Op) (o : Option X) → ((x : X) → IfAsked P (f x))
    → IfAsked P (option_and_then f o)
asked-then P f None h = tt
asked-then P f (Some x) h = h x

round-work : (rows : Rows) (now : Moment) (s : Subject) → IfAsked IsOfRound (work_on rows now s)
round-work rows now (OfCell name) =
    asked-then IsOfRound (λ (c : CellRow). told.cell_work c now) (find_cell rows name)
    (λ c. asked_either IsOfRound (nat_le c.until now.0) (Some (op.Vanish c.cell)) None tt tt)
round-work rows now (OfDomain name) =
    asked-then IsOfRound (λ (d : DomainRow). told.domain_work d now) (find_domain rows name) (λ d.
    asked-then IsOfRound (λ (until : ℕ). told.asked_if (nat_le until now.0) (op.Forget d.domain)) d.until (λ until.
    asked_either IsOfRound (nat_le until now.0) (Some (op.Forget d.domain)) None tt tt))
round-work rows now (OfPlace (key, Ordinary)) = round-ordinary rows now key (find_actual rows key Ordinary)
round-work rows now (OfPlace (key, Evacuating)) = round-evacuating rows now key (find_actual rows key Evacuating)
round-work rows now (OfPlace (key, Suspect)) = round-suspect rows now key (find_actual rows key Suspect)
round-work rows now (OfTask name) = asked-then IsOfRound (told.task_work rows now) (find_task rows name)
    (λ t. round-state rows now t t.state)
round-work rows now (OfProcess name) = tt

pub work_of_round : (rows : Rows) (now : Moment) → IsValid rows → AreOfRound now (told.work rows now)
work_of_round rows now valid = record {
  ops = λ c inside. subst (IfAsked IsOfRound) ((work_is_by_subject rows now c valid).0 inside).1
      (round-work rows now (subject_in c));
  moments = λ c inside. ((work_is_by_subject rows now c valid).0 inside).0;
}

pub same_some : {X : Type 0} (x y : X) → Some x ≡ Some y → x ≡ y
same_some x y e = cc

-- a wanted row isn't to be retired
pub kept-wanted : (rows : Rows) (now : Moment) (key : Key) (a : Actual) → told.wants rows key ≡ true
    → told.is_retirable rows now key a ≡ false
kept-wanted rows now key a wanted = ap (λ (b : Bool). not b && told.may_go rows now a) wanted

-- nor is a row with the domain of one that isn't
pub kept-alike : (rows : Rows) (now : Moment) (key : Key) (a b : Actual) → b.domain ≡ a.domain
    → told.is_retirable rows now key a ≡ false → told.is_retirable rows now key b ≡ false
kept-alike rows now key a b same kept = ap (λ (d : Option (List ℕ)).
    not (told.wants rows key) && option_map_or (told.fresh_in rows now) d true) same ∙ kept

none_either : {X : Type 0} (b : Bool) → cond b None None ≡ (let none : Option X = None in none)
none_either true = refl
none_either false = refl

-- an UNCLAIMED row that isn't to be retired is asked for nothing
pub rests-unclaimed : (rows : Rows) (now : Moment) (key : Key) (a : Actual) → told.is_retirable rows now key a ≡ false
    → a.state ≡ lrp.Unclaimed → told.ordinary_work rows now key (Some a) ≡ None
rests-unclaimed rows now key a kept is =
    ap (λ (b : Bool). cond b (Some (op.Remove key (holder_of a.state)))
    (cond (told.is_lost rows now a.state) (told.given_up (told.wants rows key) key a.state)
    (cond (told.wants rows key) (told.restart_if_due key a now a.state) None))) kept
    ∙ ap (λ (s : LrpState). cond (told.is_lost rows now s) (told.given_up (told.wants rows key) key s)
    (cond (told.wants rows key) (told.restart_if_due key a now s) None)) is
    ∙ none_either (told.wants rows key)

-- what work does to an ORDINARY row: nothing is asked of it, and it is as it was or doesn't run
abbrev pub IsDone : Rows → Moment → Key → Option Actual → Option Actual → Type 0
IsDone rows now key before after = (told.ordinary_work rows now key after ≡ None)
    × ((after ≡ before) ⊎ (told.runs_there rows now after ≡ false))

done-unclaimed : (rows : Rows) (now : Moment) (key : Key) (before after : Option Actual) (a : Actual) → after ≡ Some a
    → a.state ≡ lrp.Unclaimed → told.is_retirable rows now key a ≡ false
    → IsDone rows now key before after
done-unclaimed rows now key before after a is state kept = (
  ap (told.ordinary_work rows now key) is ∙ rests-unclaimed rows now key a kept state,
  inr (ap (told.runs_there rows now) is ∙ ap (told.runs_in rows now) state),
)

module _ (rows : Rows) (now : Moment) (key : Key) (before : Rows) where
  abbrev Steps : Option Actual → Op → Type 0
  Steps r o = IsAccepted (verdict_of before (told.at now o))
      → IsDone rows now key r (find_actual (state_after before (told.at now o)) key Ordinary)

  make-step : find_actual before key Ordinary ≡ None → told.wants rows key ≡ true → Steps None (op.Make key)
  make-step is wanted h =
      done-unclaimed rows now key None (find_actual (state_after before (told.at now (op.Make key))) key Ordinary)
      (beginning before now key) (after-make before now key h) refl
      (kept-wanted rows now key (beginning before now key) wanted)

  module _ (a : Actual) (is : find_actual before key Ordinary ≡ Some a) where
    remove-step : told.wants rows key ≡ false → Steps (Some a) (op.Remove key (holder_of a.state))
    remove-step unwanted h =
        let m = after-remove before now key (holder_of a.state) h in
        let same : m.old ≡ a = same_some m.old a (sym m.found ∙ is) in
        let taken : IsTaken (lrp_move a (move.Remove (holder_of a.state)) now) =
        subst (λ (x : Actual). IsTaken (lrp_move x (move.Remove (holder_of a.state)) now)) same m.taken in
        let gone : find_actual (state_after before (told.at now (op.Remove key (holder_of a.state)))) key Ordinary
        ≡ None =
        m.after ∙ ap (λ (x : Actual). left_by x (lrp_move x (move.Remove (holder_of a.state)) now)) same ∙ removed a now
        taken in (
          ap (told.ordinary_work rows now key) gone ∙ ap (λ (b : Bool). told.asked_if b (op.Make key)) unwanted,
          inr (ap (told.runs_there rows now) gone),
        )

    -- a row that a move leaves UNCLAIMED rests
    left-unclaimed : (asked : LrpMove) (new : Rows) → IsMoved before key asked now new
        → ((old : Actual) → IsTaken (lrp_move old asked now) → IsUnclaimed (left_by old (lrp_move old asked now)))
        → told.is_retirable rows now key a ≡ false → IsDone rows now key (Some a) (find_actual new key Ordinary)
    left-unclaimed asked new m ends kept =
        let u = ends m.old m.taken in
        let same : m.old ≡ a = same_some m.old a (sym m.found ∙ is) in
        let domain : u.0.domain ≡ a.domain = domain-left m.old u.0 asked now u.1 ∙ ap (λ (x : Actual). x.domain) same in
        done-unclaimed rows now key (Some a) (find_actual new key Ordinary) u.0 (m.after ∙ u.1) u.2
        (kept-alike rows now key a u.0 domain kept)

    unclaim-step : (instance : Instance) → told.is_retirable rows now key a ≡ false
        → Steps (Some a) (op.Unclaim key instance)
    unclaim-step instance kept h =
        left-unclaimed (move.Unclaim instance) (state_after before (told.at now (op.Unclaim key instance)))
        (after-unclaim before now key instance h) (λ old taken. unclaimed old now instance taken) kept

    restart-step : told.is_retirable rows now key a ≡ false → Steps (Some a) (op.Restart key)
    restart-step kept h = left-unclaimed move.Restart (state_after before (told.at now (op.Restart key)))
        (after-restart before now key h) (λ old taken. restarted old now taken) kept

    suspect-step : (instance : Instance) (cell : List ℕ) → a.state ≡ lrp.Running instance cell
        → told.is_retirable rows now key a ≡ false → Steps (Some a) (op.Suspect key instance)
    suspect-step instance cell state kept h =
        let runs : is_running_as a.state instance ≡ true = ap
        (λ (s : LrpState). is_running_as s instance) state ∙ instance_itself instance in
        done-unclaimed rows now key (Some a) (find_actual (state_after before (told.at now (op.Suspect key instance)))
        key Ordinary) (left_row a now)
        (after-suspect before now key instance a is runs h) refl (kept-alike rows now key a (left_row a now) refl kept)

    given-step : (wanted : Bool) (s : LrpState) (o : Op) → a.state ≡ s → told.is_retirable rows now key a ≡ false
        → told.given_up wanted key s ≡ Some o → Steps (Some a) o
    given-step wanted lrp.Unclaimed o state kept e = absurd cc
    given-step wanted (lrp.Claimed instance cell) o state kept e =
        subst (Steps (Some a)) (same_some (op.Unclaim key instance) o e) (unclaim-step instance kept)
    given-step true (lrp.Running instance cell) o state kept e =
        subst (Steps (Some a)) (same_some (op.Suspect key instance) o e) (suspect-step instance cell state kept)
    given-step false (lrp.Running instance cell) o state kept e =
        subst (Steps (Some a)) (same_some (op.Unclaim key instance) o e) (unclaim-step instance kept)
    given-step wanted lrp.Crashed o state kept e = absurd cc

    again-step : (s : LrpState) (o : Op) → told.is_retirable rows now key a ≡ false
        → told.restart_if_due key a now s ≡ Some o → Steps (Some a) o
    again-step lrp.Unclaimed o kept e = absurd cc
    again-step (lrp.Claimed instance cell) o kept e = absurd cc
    again-step (lrp.Running instance cell) o kept e = absurd cc
    again-step lrp.Crashed o kept e =
        elim (told.is_due a now) as (λ (b : Bool). told.asked_if b (op.Restart key) ≡ Some o → Steps (Some a) o) [
          | true ↦ λ f. subst (Steps (Some a)) (same_some (op.Restart key) o f) (restart-step kept)
          | false ↦ λ f. absurd cc
        ] e

    kept-step : (o : Op) → told.is_retirable rows now key a ≡ false
        → cond (told.is_lost rows now a.state) (told.given_up (told.wants rows key) key a.state)
        (cond (told.wants rows key) (told.restart_if_due key a now a.state) None) ≡ Some o → Steps (Some a) o
    kept-step o kept e =
        elim (told.is_lost rows now a.state) as (λ (b : Bool).
        cond b (told.given_up (told.wants rows key) key a.state)
        (cond (told.wants rows key) (told.restart_if_due key a now a.state) None) ≡ Some o → Steps (Some a) o) [
          | true ↦ λ f. given-step (told.wants rows key) a.state o refl kept f
          | false ↦ λ f. elim (told.wants rows key) as (λ (b : Bool).
              cond b (told.restart_if_due key a now a.state) None ≡ Some o → Steps (Some a) o) [
                | true ↦ λ g. again-step a.state o kept g
                | false ↦ λ g. absurd cc
              ] f
        ] e

  unwanted_of : (a : Actual) → told.is_retirable rows now key a ≡ true → told.wants rows key ≡ false
  unwanted_of a e = elim (told.wants rows key) as (λ (b : Bool). (not b && told.may_go rows now a) ≡ true → b ≡ false)
      [ true ↦ λ f. absurd cc | false ↦ λ f. refl ] e

  -- what is asked of an ORDINARY row does it
  pub ordinary-step : (r : Option Actual) (o : Op) → find_actual before key Ordinary ≡ r
      → told.ordinary_work rows now key r ≡ Some o → Steps r o
  ordinary-step None o is e =
      elim (told.wants rows key) as (λ (b : Bool). told.wants rows key ≡ b → told.asked_if b (op.Make key) ≡ Some o
      → Steps None o) [
        | true ↦ λ w f. subst (Steps None) (same_some (op.Make key) o f) (make-step is w)
        | false ↦ λ w f. absurd cc
      ] refl e
  ordinary-step (Some a) o is e =
      elim (told.is_retirable rows now key a) as (λ (b : Bool). told.is_retirable rows now key a ≡ b
      → cond b (Some (op.Remove key (holder_of a.state)))
      (cond (told.is_lost rows now a.state) (told.given_up (told.wants rows key) key a.state)
      (cond (told.wants rows key) (told.restart_if_due key a now a.state) None)) ≡ Some o → Steps (Some a) o) [
        | true ↦ λ w f. subst (Steps (Some a)) (same_some (op.Remove key (holder_of a.state)) o f)
            (remove-step a is (unwanted_of a w))
        | false ↦ λ w f. kept-step a is o w f
      ] refl e

-- a SUSPECT row of which something is asked is dropped
pub suspect-dropped : (rows : Rows) (now : Moment) (key : Key) (before : Rows) (r : Option Actual) (o : Op)
    → told.suspect_work rows now key r ≡ Some o
    → IsAccepted (verdict_of before (told.at now o)) → find_actual (state_after before (told.at now o)) key Suspect
    ≡ None
suspect-dropped rows now key before None o e = absurd cc
suspect-dropped rows now key before (Some a) o e =
    elim (told.is_past rows now key a) as (λ (b : Bool). cond b (told.drop_suspect_of key a.state) None ≡ Some o
    → IsAccepted (verdict_of before (told.at now o)) → find_actual (state_after before (told.at now o)) key Suspect
    ≡ None) [
      | true ↦ λ f. elim (holder_of a.state) as (λ (h : Option Instance). option_map (op.DropSuspect key) h ≡ Some o
          → IsAccepted (verdict_of before (told.at now o)) → find_actual
          (state_after before (told.at now o)) key Suspect ≡ None) [
            | None ↦ λ g. absurd cc
            | (Some instance) ↦ λ g. subst (λ (x : Op). IsAccepted (verdict_of before (told.at now x))
                → find_actual (state_after before (told.at now x)) key Suspect ≡ None)
                (same_some (op.DropSuspect key instance) o g) (after-drop_suspect before now key instance)
          ] f
      | false ↦ λ f. absurd cc
    ] e

-- an EVACUATING row of which something is asked is dropped
pub evacuating-step : (rows : Rows) (now : Moment) (key : Key) (before : Rows) (r : Option Actual) (o : Op)
    → told.evacuating_work rows now key r ≡ Some o
    → IsAccepted (verdict_of before (told.at now o)) → find_actual (state_after before (told.at now o)) key Evacuating
    ≡ None
evacuating-step rows now key before None o e = absurd cc
evacuating-step rows now key before (Some a) o e =
    elim (told.is_spent rows now key a) as (λ (b : Bool). cond b (told.drop_row_of key a.state) None ≡ Some o
    → IsAccepted (verdict_of before (told.at now o)) → find_actual
    (state_after before (told.at now o)) key Evacuating ≡ None) [
      | true ↦ λ f. elim (holder_of a.state) as (λ (h : Option Instance). option_map (op.DropEvacuating key) h ≡ Some o
          → IsAccepted (verdict_of before (told.at now o)) → find_actual
          (state_after before (told.at now o)) key Evacuating ≡ None) [
            | None ↦ λ g. absurd cc
            | (Some instance) ↦ λ g. subst (λ (x : Op). IsAccepted (verdict_of before (told.at now x))
                → find_actual (state_after before (told.at now x)) key Evacuating ≡ None)
                (same_some (op.DropEvacuating key instance) o g) (after-drop before now key instance)
          ] f
      | false ↦ λ f. absurd cc
    ] e

-- a cell of which something is asked is gone
after-vanish : (before : Rows) (now : Moment) (name : List ℕ)
    → IsAccepted (verdict_of before (told.at now (op.Vanish name)))
    → find_cell (state_after before (told.at now (op.Vanish name))) name ≡ None
after-vanish before now name h =
    let P = λ (attempt : Attempt). IsTried attempt → find_cell (changed_by before attempt) name ≡ None in
    by_attempt (λ (new : Rows). find_cell new name ≡ None) before (told.at now (op.Vanish name)) h
    (elim (find_cell before name) as (λ (c : Option CellRow). find_cell before name ≡ c → IsTried (vanish c now)
    → find_cell (changed_by before (vanish c now)) name ≡ None) [
      | None ↦ λ is f. absurd f
      | (Some old) ↦ λ is. elim (nat_lt now.0 old.until) as
          (λ (b : Bool). IsTried (cond b (Refuse (LeaseHolds old.until)) (drop_row (row.Cell old)))
          → find_cell (changed_by before (cond b (Refuse (LeaseHolds old.until)) (drop_row (row.Cell old)))) name
          ≡ None) [
            | true ↦ λ f. absurd f
            | false ↦ λ f. subst (λ (n : List ℕ). find_row name_order cell_name_of n
                (without_row name_order cell_name_of old.cell before.cells) ≡ None)
                (key-find_row name_order cell_name_of IsKeyOrder-name_order name old before.cells is)
                (find_row-without_row_same name_order cell_name_of IsKeyOrder-name_order old.cell before.cells)
          ]
    ] refl)

pub cell-step : (now : Moment) (before : Rows) (name : List ℕ) (c : CellRow) (o : Op) → c.cell ≡ name
    → told.cell_work c now ≡ Some o
    → IsAccepted (verdict_of before (told.at now o)) → find_cell (state_after before (told.at now o)) name ≡ None
cell-step now before name c o same e =
    elim (nat_le c.until now.0) as (λ (b : Bool). told.asked_if b (op.Vanish c.cell) ≡ Some o
    → IsAccepted (verdict_of before (told.at now o)) → find_cell (state_after before (told.at now o)) name ≡ None) [
      | true ↦ λ f. subst (λ (x : Op). IsAccepted (verdict_of before (told.at now x))
          → find_cell (state_after before (told.at now x)) name ≡ None)
          (ap (λ (n : List ℕ). op.Vanish n) (sym same) ∙ same_some (op.Vanish c.cell) o f)
          (after-vanish before now name)
      | false ↦ λ f. absurd cc
    ] e

-- a domain of which something is asked is gone
after-forget : (before : Rows) (now : Moment) (name : List ℕ)
    → IsAccepted (verdict_of before (told.at now (op.Forget name)))
    → find_domain (state_after before (told.at now (op.Forget name))) name ≡ None
after-forget before now name h =
    let attempt_on = λ (d : Option DomainRow). if_known d
    (λ old. cond (holds_at old now) (Refuse (LeaseHolds (told_end old.until))) (drop_row (row.Domain old))) in
    by_attempt (λ (new : Rows). find_domain new name ≡ None) before (told.at now (op.Forget name)) h
    (elim (find_domain before name) as (λ (d : Option DomainRow). find_domain before name ≡ d → IsTried (attempt_on d)
    → find_domain (changed_by before (attempt_on d)) name ≡ None) [
      | None ↦ λ is f. absurd f
      | (Some old) ↦ λ is. elim (holds_at old now) as (λ (b : Bool).
          IsTried (cond b (Refuse (LeaseHolds (told_end old.until))) (drop_row (row.Domain old)))
          → find_domain (changed_by before (cond b (Refuse (LeaseHolds (told_end old.until)))
          (drop_row (row.Domain old)))) name ≡ None) [
            | true ↦ λ f. absurd f
            | false ↦ λ f. subst (λ (n : List ℕ). find_row name_order domain_name_of n
                (without_row name_order domain_name_of old.domain before.domains) ≡ None)
                (key-find_row name_order domain_name_of IsKeyOrder-name_order name old before.domains is)
                (find_row-without_row_same name_order domain_name_of IsKeyOrder-name_order old.domain
                before.domains)
          ]
    ] refl)

pub domain-step : (now : Moment) (before : Rows) (name : List ℕ) (d : DomainRow) (o : Op) → d.domain ≡ name
    → told.domain_work d now ≡ Some o
    → IsAccepted (verdict_of before (told.at now o)) → find_domain (state_after before (told.at now o)) name ≡ None
domain-step now before name d o same e =
    elim d.until as (λ (until : Option ℕ). option_and_then
    (λ (u : ℕ). told.asked_if (nat_le u now.0) (op.Forget d.domain)) until ≡ Some o
    → IsAccepted (verdict_of before (told.at now o)) → find_domain (state_after before (told.at now o)) name ≡ None) [
      | None ↦ λ f. absurd cc
      | (Some u) ↦ λ f. elim (nat_le u now.0) as (λ (b : Bool). told.asked_if b (op.Forget d.domain) ≡ Some o
          → IsAccepted (verdict_of before (told.at now o)) → find_domain (state_after before (told.at now o)) name
          ≡ None) [
            | true ↦ λ g. subst (λ (x : Op). IsAccepted (verdict_of before (told.at now x))
                → find_domain (state_after before (told.at now x)) name ≡ None)
                (ap (λ (n : List ℕ). op.Forget n) (sym same) ∙ same_some (op.Forget d.domain) o g)
                (after-forget before now name)
            | false ↦ λ g. absurd cc
          ] f
    ] e

-- a task of which something is asked has ended
module _ (now : Moment) (before : Rows) (name : List ℕ) where
  abbrev Ends : Op → Type 0
  Ends o = IsAccepted (verdict_of before (told.at now o))
      → HasEnded now (find_task (state_after before (told.at now o)) name)

  pub cancel-ends : Ends (op.CancelTask name)
  cancel-ends h = let m = after-cancel before now name h in
      subst (HasEnded now) (sym m.after) (has-cancelled m.old now m.taken)

  kick-ends : Ends (op.KickTask name)
  kick-ends h = let m = after-kick before now name h in subst (HasEnded now) (sym m.after)
      (has-kicked m.old now m.taken)

  expire-ends : Ends (op.ExpireTask name)
  expire-ends h = let m = after-expire before now name h in
      subst (HasEnded now) (sym m.after) (has-expired m.old now m.taken)

  ends-if : (b : Bool) (x o : Op) → told.asked_if b x ≡ Some o → Ends x → Ends o
  ends-if true x o e f = subst Ends (same_some x o e) f
  ends-if false x o e f = absurd cc

  pub task-step : (rows : Rows) (t : Task) (s : TaskState) (o : Op) → t.name ≡ name
      → told.asked_of_task rows now t s ≡ Some o → Ends o
  task-step rows t task.Pending o same e =
      ends-if (told.has_passed 1800 t.since now) (op.CancelTask t.name) o e
      (subst (λ (n : List ℕ). Ends (op.CancelTask n)) (sym same) cancel-ends)
  task-step rows t (task.Running instance cell) o same e =
      ends-if (not (told.is_there rows now cell instance.epoch)) (op.CancelTask t.name) o e
      (subst (λ (n : List ℕ). Ends (op.CancelTask n)) (sym same) cancel-ends)
  task-step rows t (task.Completed failed) o same e =
      ends-if (told.has_passed 120 t.since now) (op.ExpireTask t.name) o e
      (subst (λ (n : List ℕ). Ends (op.ExpireTask n)) (sym same) expire-ends)
  task-step rows t (task.Resolving failed) o same e =
      ends-if (told.has_passed 30 t.since now) (op.KickTask t.name) o e
      (subst (λ (n : List ℕ). Ends (op.KickTask n)) (sym same) kick-ends)

-- a task that ended just now is asked for nothing
pub ended-rests : (rows : Rows) (now : Moment) (r : Option Task) → HasEnded now r
    → option_and_then (told.task_work rows now) r ≡ None
ended-rests rows now r h =
    ⊎_elim
    (λ (none : r ≡ None). ap (option_and_then (told.task_work rows now)) none)
    (λ (some : (t : Task) × (r ≡ Some t) × (failed : Bool) × (t.state ≡ task.Completed failed) × (t.since ≡ now)).
    let t = some.0 in
    ap (option_and_then (told.task_work rows now)) some.1
    ∙ ap (told.asked_of_task rows now t) some.3
    ∙ ap (λ (m : Moment). told.asked_if (told.has_passed 120 m now) (op.ExpireTask t.name)) some.4
    ∙ ap (λ (b : Bool). told.asked_if b (op.ExpireTask t.name)) (late now.0 120 (omega arith)))
    h
