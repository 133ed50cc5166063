-- A plan that is accepted leaves the containers of all rows held but those of SUSPECT ones.
use Rattle.std.proofs.Common.{◌≡◌, ◌≢◌, ◌⊎◌, ℕ, Bool, true, false, not, List, Option, Some, None, refl, ap, sym, subst, ◌∙◌, inl, inr, ⊎_elim}
use Rattle.std.specs.List.{Contains}
use Rattle.std.specs.Option.{option_and_then, option_map_or}
use Rattle.cell_records.specs.declared.answer.Answer.{Answer}
use Rattle.cell_records.specs.declared.job_name.JobName.TheVariants as job
use Rattle.crash_backoff.specs.declared.moment.Moment.{Moment}
use Rattle.diego_names.proofs.Public.{IsKeyOrder-name_order}
use Rattle.diego_names.specs.Order.{name_order}
use Rattle.diego_names.specs.declared.instance.Instance.{Instance}
use Rattle.diego_names.specs.declared.key.Key.{Key}
use Rattle.lrp_records.proofs.Public.{IsKeyOrder-place_order}
use Rattle.lrp_records.specs.Place.{place_of, place_order}
use Rattle.lrp_records.specs.declared.actual.Actual.{Actual}
use Rattle.lrp_records.specs.declared.lrp_move.LrpMove.{LrpMove}
use Rattle.lrp_records.specs.declared.lrp_move.LrpMove.TheVariants as move
use Rattle.lrp_records.specs.declared.presence.Presence.{Presence}
use Rattle.lrp_records.specs.declared.presence.Presence.TheVariants.{Ordinary, Evacuating, Suspect}
use Rattle.lrp_records.specs.declared.state.LrpState.{LrpState}
use Rattle.lrp_records.specs.declared.state.LrpState.TheVariants as lrp
use Rattle.row_tables.proofs.Public.{key-find_row}
use Rattle.task_records.specs.declared.state.TaskState.{TaskState}
use Rattle.task_records.specs.declared.state.TaskState.TheVariants as task
use Rattle.task_records.specs.declared.task.Task.{Task}
use Rattle.bbs_model.specs.Found.{suspect_in}
use Rattle.bbs_model.specs.Runs.{state_after, state_after_all}
use Rattle.bbs_model.specs.Step.{verdict_of}
use Rattle.bbs_model.specs.Tables.{task_name_of, find_actual, find_task}
use Rattle.bbs_model.specs.Valid.{IsValid, SuitsPresence}
use Rattle.bbs_model.specs.Work as told
use Rattle.bbs_model.specs.Work.{is_running, runs}
use Rattle.bbs_model.specs.declared.command.Command.{Command}
use Rattle.bbs_model.specs.declared.command.Op.{Op}
use Rattle.bbs_model.specs.declared.command.Op.TheVariants as op
use Rattle.bbs_model.specs.declared.rows.Rows.{Rows}
use Rattle.convergence.specs.Containers.{Site, site_of, task_site_of}
use Rattle.convergence.specs.Plans as planned
use Rattle.convergence.specs.PlanLaws.{plan_on}
use Rattle.convergence.specs.Subjects.{Subject, OfPlace, OfTask, subject_of, subject_in, ordinary_of}
use Rattle.convergence.proofs.Public.{about_is, about_plan, plan_is_by_subject}
use Rattle.converge_laws.specs.Accepted.{IsAccepted, AreAccepted, IsOfRound}
use Rattle.converge_laws.specs.Converged.{is_held, HasItsContainer, IsUnwantedKept, IsStateHeld, IsKeptAside, IsSuspected}
use Rattle.converge_laws.specs.Laws.{AreOfRound, KeepsGround}
use Rattle.converge_laws.specs.Stages.{IsWorked, HaveAnswered, MayBePlaced, IsPlaceable, MayTaskBePlaced, IsTaskPlaceable, IsPlanned}
use Rattle.converge_laws.proofs.Frames.{suspect-own, stays-ordinary, stays-evacuating, stays-suspect, stays-task}
use Rattle.converge_laws.proofs.Kept.{suspected-any, unwanted-ground, reason-ground, placeable-as}
use Rattle.converge_laws.proofs.Held.{held-ground}
use Rattle.converge_laws.proofs.MoveEnds.{IsUnclaimed, IsToWait, unclaimed, has-crashed}
use Rattle.converge_laws.proofs.Moves.{IsMoved, domain-left, after-unclaim, after-crash, after-drop}
use Rattle.converge_laws.proofs.Rests.{MayStand, may_stand, StandsIn, WaitsIfCrashed, not_false, all_false, rests-row, rests-none, idle-row, running-holder, suits-presence, unspent-row}
use Rattle.converge_laws.proofs.Runs.{run-other, run-took, run-ground}
use Rattle.converge_laws.proofs.TaskMoves.{HasEnded, after-complete, has-completed}
use Rattle.converge_laws.proofs.WorkOps.{same_some, cancel-ends}
use Rattle.converge_laws.proofs.PlanOps.{plan_of_round, plan-unsuspected, plan-apart, ordinary-tells, evacuating-tells, task-tells, IsDone, done-unclaimed, done-waits}

module _ (rows : Rows) (got stores : List Answer) (now : Moment) (valid : IsValid rows) (worked : IsWorked rows now)
    (heard : HaveAnswered rows got stores now)
    (taken : AreAccepted rows (planned.plan_of_answers rows got now)) where
  abbrev new : Rows
  new = state_after_all rows (planned.plan_of_answers rows got now)

  of_round : AreOfRound now (planned.plan_of_answers rows got now)
  of_round = plan_of_round rows got now valid

  pub plan-ground : KeepsGround now rows new
  plan-ground = run-ground rows now (planned.plan_of_answers rows got now) of_round

  unasked : (s : Subject) → plan_on rows got s ≡ None → (c : Command)
      → Contains (planned.plan_of_answers rows got now) c → subject_in c ≢ s
  unasked s none c inside same =
      let asked : plan_on rows got s ≡ Some c.op = subst (λ (t : Subject). plan_on rows got t ≡ Some c.op) same
      ((plan_is_by_subject rows got now c valid).0 inside).1 in
      cc

  about_it : (s : Subject) (o : Op) → plan_on rows got s ≡ Some o → subject_of o ≡ s
  about_it s o e = about_is s (plan_on rows got s) o (about_plan rows got s) e

  asked_inside : (s : Subject) (o : Op) → plan_on rows got s ≡ Some o
      → Contains (planned.plan_of_answers rows got now) (told.at now o)
  asked_inside s o e = (plan_is_by_subject rows got now (told.at now o) valid).1
      (refl, subst (λ (t : Subject). plan_on rows got t ≡ Some o) (sym (about_it s o e)) e)

  module _ {A : Type 0} (view : Rows → A) (s : Subject)
      (stays : (r : Rows) (c : Command) → IsOfRound c.op → subject_in c ≢ s → view (state_after r c) ≡ view r) where
    leaves : plan_on rows got s ≡ None → view new ≡ view rows
    leaves none = run-other view (λ (c : Command). subject_in c ≢ s) stays rows
        (planned.plan_of_answers rows got now) of_round.ops (unasked s none)

    takes : (Q : A → Type 0) (o : Op) → plan_on rows got s ≡ Some o
        → ((before : Rows) → view before ≡ view rows → IsAccepted (verdict_of before (told.at now o))
        → Q (view (state_after before (told.at now o)))) → Q (view new)
    takes Q o e own =
        run-took view (λ (c : Command). subject_in c ≢ s) stays Q (told.at now o) rows
        (planned.plan_of_answers rows got now) of_round.ops (plan-apart rows got now valid) taken
        (asked_inside s o e) (λ d inside other same. other (same ∙ sym (about_it s o e))) own

  module _ (key : Key) where
    abbrev ordinary : Rows → Option Actual
    ordinary r = find_actual r key Ordinary

    stays-here : (r : Rows) (c : Command) → IsOfRound c.op → subject_in c ≢ ordinary_of key
        → ordinary (state_after r c) ≡ ordinary r
    stays-here r c h other = stays-ordinary r c h key other

    kept-row : (a : Actual) → ordinary rows ≡ Some a → planned.actual_plan got a ≡ None → ordinary new ≡ ordinary rows
    kept-row a is none = leaves ordinary (ordinary_of key) stays-here
        (ap (option_and_then (planned.actual_plan got)) is ∙ none)

    same-row : IsPlaceable rows stores now key (ordinary rows) → ordinary new ≡ ordinary rows
        → IsDone rows stores now key (ordinary rows) (ordinary new)
    same-row h same = (subst (IsPlaceable rows stores now key) (sym same) h, inl same)

    -- a row that a move leaves is in the domain of the row that was there
    same-domain : (a : Actual) → ordinary rows ≡ Some a → (before : Rows) → ordinary before ≡ ordinary rows
        → (asked : LrpMove) (after : Rows) → IsMoved before key asked now after
        → (x : Actual) → ordinary after ≡ Some x → x.domain ≡ a.domain
    same-domain a is before same asked after m x e =
        let old : m.old ≡ a = same_some m.old a (sym m.found ∙ same ∙ is) in
        domain-left m.old x asked now (sym m.after ∙ e) ∙ ap (λ (y : Actual). y.domain) old

    placed-row : (a : Actual) (instance : Instance) (cell : List ℕ) → ordinary rows ≡ Some a
        → MayStand rows now key a.domain → site_of a.state ≡ Some (instance, cell)
        → told.is_there rows now cell instance.epoch ≡ true
        → (is_held rows stores now (job.Lrp a.key) instance cell ≡ true → MayBePlaced rows stores now a a.state)
        → IsDone rows stores now key (ordinary rows) (ordinary new)
    placed-row a instance cell is reason site there fits =
        let place : place_of a ≡ (key, Ordinary) = key-find_row place_order place_of IsKeyOrder-place_order
        (key, Ordinary) a rows.actual is in
        let asked = λ (o : Option Op) (e : planned.actual_plan got a ≡ o). let r : plan_on rows got (ordinary_of key)
        ≡ o = ap (option_and_then (planned.actual_plan got)) is ∙ e in r in
        ⊎_elim
        (λ (gone : planned.actual_plan got a ≡ Some (op.Unclaim key instance)).
        takes ordinary (ordinary_of key) stays-here (IsDone rows stores now key (ordinary rows))
        (op.Unclaim key instance) (asked (Some (op.Unclaim key instance)) gone) (λ before same h.
        let m = after-unclaim before now key instance h in
        done-unclaimed rows stores now key (ordinary rows) (ordinary
        (state_after before (told.at now (op.Unclaim key instance)))) a.domain reason
        (same-domain a is before same (move.Unclaim instance)
        (state_after before (told.at now (op.Unclaim key instance))) m)
        (subst IsUnclaimed (sym m.after) (unclaimed m.old now instance m.taken))))
        (λ (more : (planned.actual_plan got a ≡ Some (op.Crash key instance))
        ⊎ ((planned.actual_plan got a ≡ None) × (is_held rows stores now (job.Lrp key) instance cell ≡ true))).
        ⊎_elim
        (λ (ended : planned.actual_plan got a ≡ Some (op.Crash key instance)).
        takes ordinary (ordinary_of key) stays-here (IsDone rows stores now key (ordinary rows)) (op.Crash key instance)
        (asked (Some (op.Crash key instance)) ended) (λ before same h.
        let m = after-crash before now key instance h in
        done-waits rows stores now key (ordinary rows) (ordinary
        (state_after before (told.at now (op.Crash key instance)))) a.domain reason
        (same-domain a is before same (move.Crash instance)
        (state_after before (told.at now (op.Crash key instance))) m)
        (subst (IsToWait now) (sym m.after) (has-crashed m.old now instance m.taken))))
        (λ (held : (planned.actual_plan got a ≡ None) × (is_held rows stores now (job.Lrp key) instance cell ≡ true)).
        let mine : is_held rows stores now (job.Lrp a.key) instance cell ≡ true =
        subst (λ (p : Key × Presence). is_held rows stores now (job.Lrp p.0) instance cell ≡ true)
        (sym place) held.1 in
        same-row (subst (IsPlaceable rows stores now key) (sym is)
        (placeable-as rows stores now key a reason (fits mine))) (kept-row a is held.0))
        more)
        (ordinary-tells rows got stores now heard key a instance cell place site there)

    state-done : (a : Actual) (s : LrpState) → ordinary rows ≡ Some a → a.state ≡ s → MayStand rows now key a.domain
        → StandsIn rows now s → WaitsIfCrashed rows now key a s
        → IsDone rows stores now key (ordinary rows) (ordinary new)
    state-done a lrp.Unclaimed is state reason stands waits =
        let none : planned.actual_plan got a ≡ None =
        ap (λ (s : LrpState). option_and_then (λ (site : Site).
        option_and_then (planned.row_plan a.presence a.key site.0) (planned.told_of got (job.Lrp a.key) site))
        (site_of s)) state in
        same-row (subst (IsPlaceable rows stores now key) (sym is)
        (placeable-as rows stores now key a reason (subst (MayBePlaced rows stores now a) (sym state) tt)))
        (kept-row a is none)
    state-done a (lrp.Claimed instance cell) is state reason stands waits =
        placed-row a instance cell is reason (ap site_of state) stands
        (λ held. subst (MayBePlaced rows stores now a) (sym state) held)
    state-done a (lrp.Running instance cell) is state reason stands waits =
        placed-row a instance cell is reason (ap site_of state) stands
        (λ held. subst (MayBePlaced rows stores now a) (sym state) held)
    state-done a lrp.Crashed is state reason stands waits =
        let none : planned.actual_plan got a ≡ None =
        ap (λ (s : LrpState). option_and_then (λ (site : Site).
        option_and_then (planned.row_plan a.presence a.key site.0) (planned.told_of got (job.Lrp a.key) site))
        (site_of s)) state in
        let fine : IsPlaceable rows stores now key (Some a) =
        ⊎_elim
        (λ (wanted : told.wants rows key ≡ true). inl (
          wanted,
          subst (MayBePlaced rows stores now a) (sym state) (waits wanted),
        ))
        (λ (stale : (told.wants rows key ≡ false) × (option_map_or (told.fresh_in rows now) a.domain true ≡ false)).
        inr (stale.0, stale.1, subst (HasItsContainer rows stores now a) (sym state) tt))
        reason in
        same-row (subst (IsPlaceable rows stores now key) (sym is) fine) (kept-row a is none)

    ordinary-done : IsDone rows stores now key (ordinary rows) (ordinary new)
    ordinary-done =
        elim (ordinary rows) as (λ (r : Option Actual). ordinary rows ≡ r → told.ordinary_work rows now key r ≡ None
        → IsDone rows stores now key (ordinary rows) (ordinary new)) [
          | None ↦ λ is rests.
              same-row (subst (IsPlaceable rows stores now key) (sym is) (rests-none rows now key rests))
              (leaves ordinary (ordinary_of key) stays-here (ap (option_and_then (planned.actual_plan got)) is))
          | (Some a) ↦ λ is rests. let rest = rests-row rows now key a rests in
              state-done a a.state is refl rest.reason rest.stands rest.waits
        ] refl (worked.rests (ordinary_of key) tt)

    -- an ORDINARY row that didn't run doesn't run now
    idle-still : told.runs_there rows now (ordinary rows) ≡ false → runs (ordinary new) ≡ false
    idle-still rests =
        ⊎_elim (λ (same : ordinary new ≡ ordinary rows). ap runs same ∙ idle-row rows now key (ordinary rows)
        (worked.rests (ordinary_of key) tt) rests) (λ (idle : runs (ordinary new) ≡ false). idle) ordinary-done.1

    abbrev aside : Rows → Option Actual
    aside r = find_actual r key Evacuating

    stays-aside : (r : Rows) (c : Command) → IsOfRound c.op → subject_in c ≢ OfPlace (key, Evacuating)
        → aside (state_after r c) ≡ aside r
    stays-aside r c h other = stays-evacuating r c h key other

    dropped-row : (instance : Instance) → plan_on rows got (OfPlace (key, Evacuating))
        ≡ Some (op.DropEvacuating key instance) → IsKeptAside new stores now key (aside new)
    dropped-row instance e =
        takes aside (OfPlace (key, Evacuating)) stays-aside (λ (r : Option Actual). IsKeptAside new stores now key r)
        (op.DropEvacuating key instance) e
        (λ before same h. subst (λ (r : Option Actual). IsKeptAside new stores now key r)
        (sym (after-drop before now key instance h)) tt)

    aside-row : (a : Actual) → aside rows ≡ Some a → told.evacuating_work rows now key (Some a) ≡ None
        → IsKeptAside new stores now key (aside new)
    aside-row a is rests =
        let place : place_of a ≡ (key, Evacuating) = key-find_row place_order place_of IsKeyOrder-place_order
        (key, Evacuating) a rows.actual is in
        let suits : SuitsPresence Evacuating a = suits-presence rows key Evacuating a valid is in
        let held = running-holder a.state suits.0 in
        let instance = held.0 in
        let cell = held.1 in
        let state : a.state ≡ lrp.Running held.0 held.1 = held.2 in
        let parts = all_false (told.is_retirable rows now key a) (told.is_lost rows now a.state)
        (told.runs_there rows now (ordinary rows)) (unspent-row rows now key a held.0 held.1 state rests) in
        let reason : (told.wants rows key ≡ true) ⊎ (told.may_go rows now a ≡ false) =
        ⊎_elim (λ (wanted : told.wants rows key ≡ true). inl wanted)
        (λ (stale : (told.wants rows key ≡ false) × (told.may_go rows now a ≡ false)). inr stale.1)
        (may_stand rows now key a parts.0) in
        let there : told.is_there rows now held.1 held.0.epoch ≡ true =
        not_false (told.is_there rows now held.1 held.0.epoch)
        (subst (λ (s : LrpState). told.is_lost rows now s ≡ false) state parts.1) in
        let asked = λ (o : Option Op) (e : planned.actual_plan got a ≡ o).
        let r : plan_on rows got (OfPlace (key, Evacuating)) ≡ o =
        ap (option_and_then (planned.actual_plan got)) is ∙ e in r in
        ⊎_elim
        (λ (gone : planned.actual_plan got a ≡ Some (op.DropEvacuating key held.0)).
        dropped-row held.0 (asked (Some (op.DropEvacuating key held.0)) gone))
        (λ (more : (planned.actual_plan got a ≡ Some (op.DropEvacuating key held.0))
        ⊎ ((planned.actual_plan got a ≡ None) × (is_held rows stores now (job.Lrp key) held.0 held.1 ≡ true))).
        ⊎_elim
        (λ (ended : planned.actual_plan got a ≡ Some (op.DropEvacuating key held.0)).
        dropped-row held.0 (asked (Some (op.DropEvacuating key held.0)) ended))
        (λ (kept : (planned.actual_plan got a ≡ None) × (is_held rows stores now (job.Lrp key) held.0 held.1 ≡ true)).
        let same : aside new ≡ Some a = leaves aside (OfPlace (key, Evacuating)) stays-aside (asked None kept.0) ∙ is in
        subst (λ (r : Option Actual). IsKeptAside new stores now key r) (sym same) (
          reason-ground rows new stores now plan-ground key a reason,
          subst (λ (s : LrpState). IsStateHeld new stores now key s) (sym state)
              (held-ground rows new stores now (job.Lrp key) held.0 held.1
              (plan-ground.there held.1 held.0.epoch) ∙ kept.1),
          idle-still parts.2,
        ))
        more)
        (evacuating-tells rows got stores now heard key a held.0 held.1 place (ap site_of state) there)

    aside-done : IsKeptAside new stores now key (aside new)
    aside-done =
        elim (aside rows) as (λ (r : Option Actual). aside rows ≡ r → told.evacuating_work rows now key r ≡ None
        → IsKeptAside new stores now key (aside new)) [
          | None ↦ λ is rests.
              subst (λ (r : Option Actual). IsKeptAside new stores now key r)
              (sym (leaves aside (OfPlace (key, Evacuating)) stays-aside
              (ap (option_and_then (planned.actual_plan got)) is) ∙ is)) tt
          | (Some a) ↦ λ is rests. aside-row a is rests
        ] refl (worked.rests (OfPlace (key, Evacuating)) tt)

    -- what may be placed may be so now
    placeable-state : (a : Actual) (s : LrpState) → MayBePlaced rows stores now a s → MayBePlaced new stores now a s
    placeable-state a lrp.Unclaimed h = tt
    placeable-state a (lrp.Claimed instance cell) h = held-ground rows new stores now (job.Lrp a.key) instance cell
        (plan-ground.there cell instance.epoch) ∙ h
    placeable-state a (lrp.Running instance cell) h = held-ground rows new stores now (job.Lrp a.key) instance cell
        (plan-ground.there cell instance.epoch) ∙ h
    placeable-state a lrp.Crashed h = h

    placeable-now : (r : Option Actual) → IsPlaceable rows stores now key r → IsPlaceable new stores now key r
    placeable-now None h = plan-ground.wanted key ∙ h
    placeable-now (Some a) h =
        ⊎_elim
        (λ (wanted : (told.wants rows key ≡ true) × MayBePlaced rows stores now a a.state).
        inl (plan-ground.wanted key ∙ wanted.0, placeable-state a a.state wanted.1))
        (λ (stale : IsUnwantedKept rows stores now key a). inr
        (unwanted-ground rows new stores now plan-ground key a stale))
        h

    abbrev suspect : Rows → Option Actual
    suspect r = find_actual r key Suspect

    suspect-leaves : plan_on rows got (OfPlace (key, Suspect)) ≡ None → suspect new ≡ suspect rows
    suspect-leaves none =
        run-other suspect (λ (c : Command). suspect_in c.op ≢ Some key)
        (λ r c h other. stays-suspect r c h key other) rows (planned.plan_of_answers rows got now) of_round.ops
        (λ c inside changes. unasked (OfPlace (key, Suspect)) none c inside
        (suspect-own c.op (plan-unsuspected rows got now valid c inside) key changes))

    -- a SUSPECT row is dropped or stays, and its ORDINARY row doesn't run
    suspect-done : IsSuspected new key (suspect new)
    suspect-done =
        elim (suspect rows) as (λ (r : Option Actual). suspect rows ≡ r → IsSuspected rows key r
        → IsSuspected new key (suspect new)) [
          | None ↦ λ is h. subst (IsSuspected new key) (sym (suspect-leaves
              (ap (option_and_then (planned.actual_plan got)) is) ∙ is)) tt
          | (Some a) ↦ λ is h.
              let idle : runs (ordinary new) ≡ false =
              ⊎_elim (λ (same : ordinary new ≡ ordinary rows). ap runs same ∙ h.1)
              (λ (i : runs (ordinary new) ≡ false). i) ordinary-done.1 in
              suspected-any new key (plan-ground.wanted key ∙ h.0) idle (suspect new)
        ] refl (worked.suspected key)

  module _ (name : List ℕ) where
    abbrev the_task : Rows → Option Task
    the_task r = find_task r name

    stays-task_here : (r : Rows) (c : Command) → IsOfRound c.op → subject_in c ≢ OfTask name
        → the_task (state_after r c) ≡ the_task r
    stays-task_here r c h other = stays-task r c h name other

    ended-placeable : (r : Option Task) → HasEnded now r → IsTaskPlaceable new stores now name r
    ended-placeable r h =
        ⊎_elim
        (λ (none : r ≡ None). subst (IsTaskPlaceable new stores now name) (sym none) tt)
        (λ (some : (t : Task) × (r ≡ Some t) × (failed : Bool) × (t.state ≡ task.Completed failed) × (t.since ≡ now)).
        subst (IsTaskPlaceable new stores now name) (sym some.1)
        (subst (MayTaskBePlaced new stores now name) (sym some.3) tt))
        h

    kept-task : (t : Task) → the_task rows ≡ Some t → planned.task_plan got t ≡ None
        → MayTaskBePlaced new stores now name t.state → IsTaskPlaceable new stores now name (the_task new)
    kept-task t is none h =
        let same : the_task new ≡ Some t = leaves the_task (OfTask name) stays-task_here
        (ap (option_and_then (planned.task_plan got)) is ∙ none) ∙ is in
        subst (IsTaskPlaceable new stores now name) (sym same) h

    idle-task : (t : Task) (s : TaskState) → the_task rows ≡ Some t → t.state ≡ s → task_site_of s ≡ None
        → MayTaskBePlaced new stores now name s → IsTaskPlaceable new stores now name (the_task new)
    idle-task t s is state site h =
        kept-task t is (ap (λ (o : Option Site). option_and_then
        (λ (x : Site). option_and_then (planned.task_row_plan t.name x.0) (planned.told_of got (job.Task t.name) x))
        o) (ap task_site_of state ∙ site))
        (subst (MayTaskBePlaced new stores now name) (sym state) h)

    running-task : (t : Task) (instance : Instance) (cell : List ℕ) → the_task rows ≡ Some t
        → t.state ≡ task.Running instance cell → told.is_there rows now cell instance.epoch ≡ true
        → IsTaskPlaceable new stores now name (the_task new)
    running-task t instance cell is state there =
        let asked = λ (o : Option Op) (e : planned.task_plan got t ≡ o). let r : plan_on rows got (OfTask name) ≡ o =
        ap (option_and_then (planned.task_plan got)) is ∙ e in r in
        ⊎_elim
        (λ (gone : planned.task_plan got t ≡ Some (op.CancelTask name)).
        takes the_task (OfTask name) stays-task_here (IsTaskPlaceable new stores now name) (op.CancelTask name)
        (asked (Some (op.CancelTask name)) gone)
        (λ before same h. ended-placeable (the_task (state_after before (told.at now (op.CancelTask name))))
        (cancel-ends now before name h)))
        (λ (more : ((failed : Bool) × (planned.task_plan got t ≡ Some (op.CompleteTask name instance failed)))
        ⊎ ((planned.task_plan got t ≡ None) × (is_held rows stores now (job.Task name) instance cell ≡ true))).
        ⊎_elim
        (λ (ended : (failed : Bool) × (planned.task_plan got t ≡ Some (op.CompleteTask name instance failed))).
        takes the_task (OfTask name) stays-task_here (IsTaskPlaceable new stores now name)
        (op.CompleteTask name instance ended.0) (asked (Some (op.CompleteTask name instance ended.0)) ended.1)
        (λ before same h.
        let m = after-complete before now name instance ended.0 h in
        ended-placeable (the_task (state_after before (told.at now (op.CompleteTask name instance ended.0))))
        (subst (HasEnded now) (sym m.after) (has-completed m.old now instance ended.0 m.taken))))
        (λ (kept : (planned.task_plan got t ≡ None) × (is_held rows stores now (job.Task name) instance cell ≡ true)).
        kept-task t is kept.0 (subst (MayTaskBePlaced new stores now name) (sym state)
        (held-ground rows new stores now (job.Task name) instance cell
        (plan-ground.there cell instance.epoch) ∙ kept.1)))
        more)
        (task-tells rows got stores now heard name t instance cell
        (key-find_row name_order task_name_of IsKeyOrder-name_order name t rows.tasks is)
        (ap task_site_of state) there)

    rests-running : (t : Task) (instance : Instance) (cell : List ℕ)
        → told.asked_of_task rows now t (task.Running instance cell) ≡ None
        → told.is_there rows now cell instance.epoch ≡ true
    rests-running t instance cell e =
        elim (told.is_there rows now cell instance.epoch) as
        (λ (b : Bool). told.asked_if (not b) (op.CancelTask t.name) ≡ None → b ≡ true)
        [ true ↦ λ f. refl | false ↦ λ f. absurd cc ] e

    state-task : (t : Task) (s : TaskState) → the_task rows ≡ Some t → t.state ≡ s
        → told.asked_of_task rows now t s ≡ None → IsTaskPlaceable new stores now name (the_task new)
    state-task t task.Pending is state rests = idle-task t task.Pending is state refl tt
    state-task t (task.Running instance cell) is state rests =
        running-task t instance cell is state (rests-running t instance cell rests)
    state-task t (task.Completed failed) is state rests = idle-task t (task.Completed failed) is state refl tt
    state-task t (task.Resolving failed) is state rests = idle-task t (task.Resolving failed) is state refl tt

    task-done : IsTaskPlaceable new stores now name (the_task new)
    task-done =
        elim (the_task rows) as (λ (r : Option Task). the_task rows ≡ r
        → option_and_then (told.task_work rows now) r ≡ None → IsTaskPlaceable new stores now name (the_task new)) [
          | None ↦ λ is rests. subst (IsTaskPlaceable new stores now name)
              (sym (leaves the_task (OfTask name) stays-task_here
              (ap (option_and_then (planned.task_plan got)) is) ∙ is)) tt
          | (Some t) ↦ λ is rests. state-task t t.state is refl rests
        ] refl (worked.rests (OfTask name) tt)

  pub plan-leaves_held : IsPlanned new stores now
  plan-leaves_held = record {
    ordinary = λ key. placeable-now key (find_actual new key Ordinary) (ordinary-done key).0;
    aside = λ key. aside-done key;
    suspected = λ key. suspect-done key;
    tasks = λ name. task-done name;
  }
