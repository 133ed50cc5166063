-- Work that is accepted leaves nothing to ask but of SUSPECT rows.
use Rattle.std.proofs.Common.{◌≡◌, ◌≢◌, ℕ, Bool, true, false, cond, not, ◌&&◌, ◌||◌, List, Option, Some, None, refl, ap, sym, subst, ◌∙◌, inl, ⊎_elim}
use Rattle.std.specs.List.{Contains}
use Rattle.std.specs.Option.{option_and_then}
use Rattle.cell_records.specs.declared.cell_row.CellRow.{CellRow}
use Rattle.crash_backoff.specs.declared.moment.Moment.{Moment}
use Rattle.diego_names.proofs.Public.{IsKeyOrder-name_order}
use Rattle.diego_names.specs.Order.{name_order}
use Rattle.diego_names.specs.declared.instance.Instance.{Instance}
use Rattle.diego_names.specs.declared.key.Key.{Key}
use Rattle.lrp_records.specs.declared.actual.Actual.{Actual}
use Rattle.lrp_records.specs.declared.presence.Presence.TheVariants.{Ordinary, Evacuating, Suspect}
use Rattle.row_tables.proofs.Public.{key-find_row}
use Rattle.task_records.specs.declared.task.Task.{Task}
use Rattle.bbs_model.specs.Found.{suspect_in}
use Rattle.bbs_model.specs.Runs.{state_after, state_after_all}
use Rattle.bbs_model.specs.Step.{verdict_of}
use Rattle.bbs_model.specs.Tables.{cell_name_of, domain_name_of, task_name_of, find_actual, find_cell, find_domain, find_task}
use Rattle.bbs_model.specs.Valid.{IsValid, IsRunning}
use Rattle.bbs_model.specs.Work as told
use Rattle.bbs_model.specs.declared.command.Command.{Command}
use Rattle.bbs_model.specs.declared.command.Op.{Op}
use Rattle.bbs_model.specs.declared.command.Op.TheVariants as op
use Rattle.bbs_model.specs.declared.domain_row.DomainRow.{DomainRow}
use Rattle.bbs_model.specs.declared.rows.Rows.{Rows}
use Rattle.convergence.specs.Subjects.{Subject, OfCell, OfDomain, OfPlace, OfTask, OfProcess, subject_of, subject_in, work_on, ordinary_of}
use Rattle.convergence.proofs.Public.{about_is, about_work, work_rises, work_is_by_subject}
use Rattle.converge_laws.specs.Accepted.{IsAccepted, AreAccepted, IsOfRound, AreApart}
use Rattle.converge_laws.specs.Converged.{IsSuspected}
use Rattle.converge_laws.specs.Laws.{AreOfRound, KeepsGround}
use Rattle.converge_laws.specs.Stages.{IsNoSuspectPlace, IsWorked}
use Rattle.converge_laws.proofs.Frames.{stays-ordinary, stays-evacuating, stays-suspect, stays-task, stays-cell, stays-domain}
use Rattle.converge_laws.proofs.Grounds.{lost-ground, runs_there-ground, retirable-ground, ordinary-ground, task-ground}
use Rattle.converge_laws.proofs.Rests.{not_false, all_false, idle-row, suspected-row, suspect-rests, running-holder, suits-presence, unpast-row}
use Rattle.converge_laws.proofs.Runs.{AreAlone, apart_from_rising, run-other, run-took, run-ground}
use Rattle.converge_laws.proofs.TaskMoves.{HasEnded}
use Rattle.converge_laws.proofs.WorkOps.{work_of_round, IsDone, ordinary-step, evacuating-step, suspect-dropped, cell-step, domain-step, task-step, ended-rests}

none_both : (b : Bool) (x : Option Op) → x ≡ None → cond b x None ≡ None
none_both true x e = e
none_both false x e = refl

-- the key of a place
abbrev key_at : Key → Subject → Key
key_at key (OfPlace place) = place.0
key_at key other = key

module _ (rows : Rows) (now : Moment) (valid : IsValid rows) where
  -- where nothing is asked of a subject, no command is about it
  not_about : (s : Subject) → work_on rows now s ≡ None → (c : Command) → Contains (told.work rows now) c
      → subject_in c ≢ s
  not_about s none c inside same =
      let asked : work_on rows now s ≡ Some c.op = subst (λ (t : Subject). work_on rows now t ≡ Some c.op) same
      ((work_is_by_subject rows now c valid).0 inside).1 in
      cc

  -- what is asked of the subject of a command is the command
  asked_of : (s : Subject) (c : Command) → Contains (told.work rows now) c → subject_in c ≡ s
      → work_on rows now s ≡ Some c.op
  asked_of s c inside same = subst (λ (t : Subject). work_on rows now t ≡ Some c.op) same
      ((work_is_by_subject rows now c valid).0 inside).1

  -- nothing is asked of a SUSPECT row where its instance is suspected
  alone-op : (c d : Command) (o : Op) → Contains (told.work rows now) c → Contains (told.work rows now) d → c.op ≡ o
      → (key : Key) → suspect_in o ≡ Some key → subject_in d ≡ OfPlace (key, Suspect) → subject_in d ≡ subject_of o
  alone-op c d (op.Suspect k instance) in_c in_d is key changes about =
      let one : k ≡ key = cc in
      let asked : work_on rows now (ordinary_of k) ≡ Some (op.Suspect k instance) =
      asked_of (ordinary_of k) c in_c (ap subject_of is) ∙ ap (λ (o : Op). Some o) is in
      let none : work_on rows now (OfPlace (k, Suspect)) ≡ None =
      suspect-rests rows now k instance (find_actual rows k Suspect) asked in
      absurd (not_about (OfPlace (k, Suspect)) none d in_d (about ∙ ap (λ (x : Key). OfPlace (x, Suspect)) (sym one)))
  alone-op c d (op.DropSuspect k instance) in_c in_d is key changes about =
      let one : k ≡ key = cc in
      about ∙ ap (λ (x : Key). OfPlace (x, Suspect)) (sym one)
  alone-op c d o in_c in_d is key changes about = absurd cc

  pub work-alone : AreAlone (told.work rows now)
  work-alone c d in_c in_d key changes about = alone-op c d c.op in_c in_d refl key changes about

  pub work-apart : AreApart (told.work rows now)
  work-apart = apart_from_rising (told.work rows now) (work_rises rows now valid) work-alone

module _ (rows : Rows) (now : Moment) (valid : IsValid rows) (taken : AreAccepted rows (told.work rows now)) where
  abbrev new : Rows
  new = state_after_all rows (told.work rows now)

  of_round : AreOfRound now (told.work rows now)
  of_round = work_of_round rows now valid

  pub work-ground : KeepsGround now rows new
  work-ground = run-ground rows now (told.work rows now) of_round

  unasked : (s : Subject) → work_on rows now s ≡ None → (c : Command) → Contains (told.work rows now) c
      → subject_in c ≢ s
  unasked s none c inside = not_about rows now valid s none c inside

  -- and where something is, that command is
  about_it : (s : Subject) (o : Op) → work_on rows now s ≡ Some o → subject_of o ≡ s
  about_it s o e = about_is s (work_on rows now s) o (about_work rows now s) e

  asked_inside : (s : Subject) (o : Op) → work_on rows now s ≡ Some o → Contains (told.work rows now) (told.at now o)
  asked_inside s o e = (work_is_by_subject rows now (told.at now o) valid).1
      (refl, subst (λ (t : Subject). work_on rows now t ≡ Some o) (sym (about_it s o e)) e)

  module _ {A : Type 0} (view : Rows → A) (s : Subject)
      (stays : (r : Rows) (c : Command) → IsOfRound c.op → subject_in c ≢ s → view (state_after r c) ≡ view r) where
    leaves : work_on rows now s ≡ None → view new ≡ view rows
    leaves none = run-other view (λ (c : Command). subject_in c ≢ s) stays rows (told.work rows now) of_round.ops
        (unasked s none)

    takes : (Q : A → Type 0) (o : Op) → work_on rows now s ≡ Some o
        → ((before : Rows) → view before ≡ view rows → IsAccepted (verdict_of before (told.at now o))
        → Q (view (state_after before (told.at now o)))) → Q (view new)
    takes Q o e own =
        run-took view (λ (c : Command). subject_in c ≢ s) stays Q (told.at now o) rows (told.work rows now) of_round.ops
        (work-apart rows now valid) taken
        (asked_inside s o e) (λ d inside other same. other (same ∙ sym (about_it s o e))) own

  ordinary-done : (key : Key) → IsDone rows now key (find_actual rows key Ordinary) (find_actual new key Ordinary)
  ordinary-done key =
      let s = ordinary_of key in
      let stays = λ (r : Rows) (c : Command) (h : IsOfRound c.op) (other : subject_in c ≢ ordinary_of key).
      stays-ordinary r c h key other in
      elim (work_on rows now (ordinary_of key)) as (λ (o : Option Op). work_on rows now (ordinary_of key) ≡ o
      → IsDone rows now key (find_actual rows key Ordinary) (find_actual new key Ordinary)) [
        | None ↦ λ e.
            let same : find_actual new key Ordinary ≡ find_actual rows key Ordinary =
            leaves (λ r. find_actual r key Ordinary) s stays e in
            (ap (told.ordinary_work rows now key) same ∙ e, inl same)
        | (Some o) ↦ λ e.
            takes (λ r. find_actual r key Ordinary) s stays (IsDone rows now key (find_actual rows key Ordinary)) o e
            (λ before same h. ordinary-step rows now key before (find_actual rows key Ordinary) o same e h)
      ] refl

  runs_less : (key : Key) → told.runs_there rows now (find_actual rows key Ordinary) ≡ false
      → told.runs_there new now (find_actual new key Ordinary) ≡ false
  runs_less key rests =
      runs_there-ground now rows new work-ground (find_actual new key Ordinary)
      ∙ ⊎_elim (λ (same : find_actual new key Ordinary ≡ find_actual rows key Ordinary).
      ap (told.runs_there rows now) same ∙ rests) (λ (not_run : told.runs_there rows now
      (find_actual new key Ordinary) ≡ false). not_run) (ordinary-done key).1

  -- an EVACUATING row that isn't spent stays so
  unspent : (key : Key) (a : Actual) → told.is_spent rows now key a ≡ false → told.is_spent new now key a ≡ false
  unspent key a e =
      let parts = all_false (told.is_retirable rows now key a) (told.is_lost rows now a.state)
      (told.runs_there rows now (find_actual rows key Ordinary)) e in
      ap (λ (b : Bool). (b || told.is_lost new now a.state) || told.runs_there new now (find_actual new key Ordinary))
      (retirable-ground now rows new work-ground key a)
      ∙ ap (λ (b : Bool). (b || told.is_lost new now a.state) || told.runs_there new now (find_actual new key Ordinary))
      parts.0
      ∙ ap (λ (b : Bool). b || told.runs_there new now (find_actual new key Ordinary))
      (lost-ground now rows new work-ground a.state ∙ parts.1)
      ∙ runs_less key parts.2

  evacuating-rests : (key : Key) (r : Option Actual) → told.evacuating_work rows now key r ≡ None
      → told.evacuating_work new now key r ≡ None
  evacuating-rests key None e = refl
  evacuating-rests key (Some a) e =
      elim (told.is_spent rows now key a) as (λ (b : Bool). told.is_spent rows now key a ≡ b
      → cond b (told.drop_row_of key a.state) None ≡ None → told.evacuating_work new now key (Some a) ≡ None) [
        | true ↦ λ is f. none_both (told.is_spent new now key a) (told.drop_row_of key a.state) f
        | false ↦ λ is f. ap (λ (b : Bool). cond b (told.drop_row_of key a.state) None) (unspent key a is)
      ] refl e

  evacuating-done : (key : Key) → told.evacuating_work new now key (find_actual new key Evacuating) ≡ None
  evacuating-done key =
      let s = OfPlace (key, Evacuating) in
      let stays = λ (r : Rows) (c : Command) (h : IsOfRound c.op) (other : subject_in c ≢ OfPlace (key, Evacuating)).
      stays-evacuating r c h key other in
      elim (work_on rows now (OfPlace (key, Evacuating))) as
      (λ (o : Option Op). work_on rows now (OfPlace (key, Evacuating)) ≡ o
      → told.evacuating_work new now key (find_actual new key Evacuating) ≡ None) [
        | None ↦ λ e.
            let same : find_actual new key Evacuating ≡ find_actual rows key Evacuating =
            leaves (λ r. find_actual r key Evacuating) s stays e in
            ap (told.evacuating_work new now key) same ∙ evacuating-rests key (find_actual rows key Evacuating) e
        | (Some o) ↦ λ e.
            takes (λ r. find_actual r key Evacuating) s stays
            (λ (r : Option Actual). told.evacuating_work new now key r ≡ None) o e
            (λ before same h. ap (told.evacuating_work new now key)
            (evacuating-step rows now key before (find_actual rows key Evacuating) o e h))
      ] refl

  cells-done : (name : List ℕ) → work_on new now (OfCell name) ≡ None
  cells-done name =
      let stays = λ (r : Rows) (c : Command) (h : IsOfRound c.op) (other : subject_in c ≢ OfCell name).
      stays-cell r c h name other in
      elim (work_on rows now (OfCell name)) as (λ (o : Option Op). work_on rows now (OfCell name) ≡ o
      → work_on new now (OfCell name) ≡ None) [
        | None ↦ λ e. ap (option_and_then (λ (c : CellRow). told.cell_work c now))
            (leaves (λ r. find_cell r name) (OfCell name) stays e) ∙ e
        | (Some o) ↦ λ e.
            takes (λ r. find_cell r name) (OfCell name) stays
            (λ (r : Option CellRow). option_and_then (λ (c : CellRow). told.cell_work c now) r ≡ None) o e
            (λ before same h. ap (option_and_then (λ (c : CellRow). told.cell_work c now))
            (elim (find_cell rows name) as (λ (r : Option CellRow). find_cell rows name ≡ r
            → option_and_then (λ (c : CellRow). told.cell_work c now) r ≡ Some o
            → find_cell (state_after before (told.at now o)) name ≡ None) [
              | None ↦ λ is f. absurd cc
              | (Some c) ↦ λ is f. cell-step now before name c o
                  (key-find_row name_order cell_name_of IsKeyOrder-name_order name c rows.cells is) f h
            ] refl e))
      ] refl

  domain-gone : (before : Rows) (name : List ℕ) (o : Op) → work_on rows now (OfDomain name) ≡ Some o
      → IsAccepted (verdict_of before (told.at now o))
      → find_domain (state_after before (told.at now o)) name ≡ None
  domain-gone before name o e h =
      elim (find_domain rows name) as (λ (r : Option DomainRow). find_domain rows name ≡ r
      → option_and_then (λ (d : DomainRow). told.domain_work d now) r ≡ Some o
      → find_domain (state_after before (told.at now o)) name ≡ None) [
        | None ↦ λ is f. absurd cc
        | (Some d) ↦ λ is f. domain-step now before name d o
            (key-find_row name_order domain_name_of IsKeyOrder-name_order name d rows.domains is) f h
      ] refl e

  domains-done : (name : List ℕ) → work_on new now (OfDomain name) ≡ None
  domains-done name =
      let stays = λ (r : Rows) (c : Command) (h : IsOfRound c.op) (other : subject_in c ≢ OfDomain name).
      stays-domain r c h name other in
      elim (work_on rows now (OfDomain name)) as (λ (o : Option Op). work_on rows now (OfDomain name) ≡ o
      → work_on new now (OfDomain name) ≡ None) [
        | None ↦ λ e. ap (option_and_then (λ (d : DomainRow). told.domain_work d now))
            (leaves (λ r. find_domain r name) (OfDomain name) stays e) ∙ e
        | (Some o) ↦ λ e.
            takes (λ r. find_domain r name) (OfDomain name) stays
            (λ (r : Option DomainRow). option_and_then (λ (d : DomainRow). told.domain_work d now) r ≡ None) o e
            (λ before same h. ap (option_and_then (λ (d : DomainRow). told.domain_work d now))
            (domain-gone before name o e h))
      ] refl

  task-rests : (r : Option Task) → option_and_then (told.task_work rows now) r ≡ None
      → option_and_then (told.task_work new now) r ≡ None
  task-rests None e = refl
  task-rests (Some t) e = task-ground now rows new work-ground t ∙ e

  tasks-done : (name : List ℕ) → work_on new now (OfTask name) ≡ None
  tasks-done name =
      let stays = λ (r : Rows) (c : Command) (h : IsOfRound c.op) (other : subject_in c ≢ OfTask name).
      stays-task r c h name other in
      elim (work_on rows now (OfTask name)) as (λ (o : Option Op). work_on rows now (OfTask name) ≡ o
      → work_on new now (OfTask name) ≡ None) [
        | None ↦ λ e. ap (option_and_then (told.task_work new now))
            (leaves (λ r. find_task r name) (OfTask name) stays e) ∙ task-rests (find_task rows name) e
        | (Some o) ↦ λ e.
            ended-rests new now (find_task new name)
            (takes (λ r. find_task r name) (OfTask name) stays (HasEnded now) o e
            (λ before same h.
            elim (find_task rows name) as (λ (r : Option Task). find_task rows name ≡ r
            → option_and_then (told.task_work rows now) r ≡ Some o
            → HasEnded now (find_task (state_after before (told.at now o)) name)) [
              | None ↦ λ is f. absurd cc
              | (Some t) ↦ λ is f. task-step now before name rows t t.state o
                  (key-find_row name_order task_name_of IsKeyOrder-name_order name t rows.tasks is) f h
            ] refl e))
      ] refl

  -- what becomes of the SUSPECT row of an instance
  module _ (key : Key) where
    abbrev suspect : Rows → Option Actual
    suspect r = find_actual r key Suspect

    -- the instance isn't suspected
    IsUnsuspected : Type 0
    IsUnsuspected = (instance : Instance) → work_on rows now (ordinary_of key) ≢ Some (op.Suspect key instance)

    -- then no other command changes its SUSPECT row
    unchanged-op : IsUnsuspected → (c : Command) (o : Op) → Contains (told.work rows now) c → c.op ≡ o
        → subject_of o ≢ OfPlace (key, Suspect) → suspect_in o ≢ Some key
    unfolding IsUnsuspected
    unchanged-op unsuspected c (op.Suspect k instance) inside is other changes =
        let one : k ≡ key = cc in
        let asked : work_on rows now (ordinary_of k) ≡ Some (op.Suspect k instance) =
        asked_of rows now valid (ordinary_of k) c inside (ap subject_of is) ∙ ap (λ (o : Op). Some o) is in
        unsuspected instance (subst (λ (x : Key). work_on rows now (ordinary_of x) ≡ Some (op.Suspect x instance)) one
        asked)
    unchanged-op unsuspected c (op.DropSuspect k instance) inside is other changes = let one : k ≡ key = cc in
        other (ap (λ (x : Key). OfPlace (x, Suspect)) one)
    unchanged-op unsuspected c o inside is other changes = absurd cc

    stays-here : (r : Rows) (c : Command) → IsOfRound c.op → suspect_in c.op ≢ Some key
        → suspect (state_after r c) ≡ suspect r
    stays-here r c h other = stays-suspect r c h key other

    suspect-leaves : IsUnsuspected → work_on rows now (OfPlace (key, Suspect)) ≡ None → suspect new ≡ suspect rows
    suspect-leaves unsuspected none =
        run-other suspect (λ (c : Command). suspect_in c.op ≢ Some key) stays-here rows
        (told.work rows now) of_round.ops
        (λ c inside. unchanged-op unsuspected c c.op inside refl (unasked (OfPlace (key, Suspect)) none c inside))

    suspect-gone : IsUnsuspected → (o : Op) → work_on rows now (OfPlace (key, Suspect)) ≡ Some o → suspect new ≡ None
    suspect-gone unsuspected o e =
        let about : subject_of o ≡ OfPlace (key, Suspect) = about_it (OfPlace (key, Suspect)) o e in
        run-took suspect (λ (c : Command). suspect_in c.op ≢ Some key) stays-here (λ (r : Option Actual). r ≡ None)
        (told.at now o) rows (told.work rows now) of_round.ops (work-apart rows now valid) taken
        (asked_inside (OfPlace (key, Suspect)) o e) (λ d inside other.
        unchanged-op unsuspected d d.op inside refl (λ same. other (same ∙ sym about)))
        (λ before same h. suspect-dropped rows now key before (suspect rows) o e h)

    -- an instance that is suspected runs no more
    idle-suspected : (instance : Instance) → work_on rows now (ordinary_of key) ≡ Some (op.Suspect key instance)
        → told.runs (find_actual new key Ordinary) ≡ false
    idle-suspected instance e =
        let done = ordinary-done key in
        ⊎_elim
        (λ (same : find_actual new key Ordinary ≡ find_actual rows key Ordinary).
        let none : told.ordinary_work rows now key (find_actual rows key Ordinary) ≡ None =
        ap (told.ordinary_work rows now key) (sym same) ∙ done.0 in
        absurd cc)
        (λ (idle : told.runs_there rows now (find_actual new key Ordinary) ≡ false).
        idle-row rows now key (find_actual new key Ordinary) done.0 idle)
        done.1

    -- nor does one whose SUSPECT row is kept
    idle-kept : told.runs_there rows now (find_actual rows key Ordinary) ≡ false
        → told.runs (find_actual new key Ordinary) ≡ false
    idle-kept rests =
        idle-row rows now key (find_actual new key Ordinary) (ordinary-done key).0
        (sym (runs_there-ground now rows new work-ground (find_actual new key Ordinary)) ∙ runs_less key rests)

    any-suspected : told.wants rows key ≡ true → told.runs (find_actual new key Ordinary) ≡ false → (r : Option Actual)
        → IsSuspected new key r
    any-suspected wanted idle None = tt
    any-suspected wanted idle (Some a) = (work-ground.wanted key ∙ wanted, idle)

    kept-suspected : (r : Option Actual) → suspect rows ≡ r → told.suspect_work rows now key r ≡ None
        → IsSuspected new key r
    kept-suspected None is e = tt
    kept-suspected (Some a) is e =
        let suits : IsRunning a.state × (a.error ≡ false) = suits-presence rows key Suspect a valid is in
        let held = running-holder a.state suits.0 in
        let row = find_actual rows key Ordinary in
        let parts = all_false (not (told.wants rows key)) (told.runs_there rows now row)
        (told.has_joined_anew rows a.state && not (told.runs row))
        (unpast-row rows now key a held.0 held.1 held.2 e) in
        any-suspected (not_false (told.wants rows key) parts.0) (idle-kept parts.1) (Some a)

    unsuspected-done : IsUnsuspected → IsSuspected new key (suspect new)
    unsuspected-done unsuspected =
        elim (work_on rows now (OfPlace (key, Suspect))) as
        (λ (o : Option Op). work_on rows now (OfPlace (key, Suspect)) ≡ o → IsSuspected new key (suspect new)) [
          | None ↦ λ e. subst (IsSuspected new key) (sym (suspect-leaves unsuspected e))
              (kept-suspected (suspect rows) refl e)
          | (Some o) ↦ λ e. subst (IsSuspected new key) (sym (suspect-gone unsuspected o e)) tt
        ] refl

    suspected-done : (o : Option Op) → work_on rows now (ordinary_of key) ≡ o → IsSuspected new key (suspect new)
    unfolding IsUnsuspected
    suspected-done (Some (op.Suspect k instance)) e =
        let about : subject_of (op.Suspect k instance) ≡ ordinary_of key =
        about_it (ordinary_of key) (op.Suspect k instance) e in
        let one : k ≡ key = ap (key_at key) about in
        let asked : work_on rows now (ordinary_of key) ≡ Some (op.Suspect key instance) =
        subst (λ (x : Key). work_on rows now (ordinary_of key) ≡ Some (op.Suspect x instance)) one e in
        any-suspected (suspected-row rows now key (find_actual rows key Ordinary) instance asked).wanted
        (idle-suspected instance asked) (suspect new)
    suspected-done o e = unsuspected-done (λ instance asked. absurd cc)

  rests-all : (s : Subject) → IsNoSuspectPlace s → work_on new now s ≡ None
  rests-all (OfCell name) h = cells-done name
  rests-all (OfDomain name) h = domains-done name
  rests-all (OfPlace (key, Ordinary)) h = ordinary-ground now rows new work-ground key (find_actual new key Ordinary) ∙
      (ordinary-done key).0
  rests-all (OfPlace (key, Evacuating)) h = evacuating-done key
  rests-all (OfPlace (key, Suspect)) h = absurd h
  rests-all (OfTask name) h = tasks-done name
  rests-all (OfProcess name) h = refl

  pub work-leaves_suspicions : IsWorked new now
  work-leaves_suspicions = record {
    rests = rests-all;
    suspected = λ key.
        suspected-done key (work_on rows now (ordinary_of key)) refl;
  }
