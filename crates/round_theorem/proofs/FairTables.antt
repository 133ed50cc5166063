-- What work and plan ask of a row is refused for nothing but want of room, while the row is as they read it.
use Rattle.std.proofs.Common.{◌≡◌, ◌⊎◌, ℕ, Bool, true, false, cond, not, nat_le, List, Option, Some, None, refl, sym, subst, ◌∙◌, inl, inr}
use Rattle.std.specs.Option.{option_and_then}
use Rattle.cell_records.specs.declared.answer.Answer.{Answer}
use Rattle.cell_records.specs.declared.cell_row.CellRow.{CellRow}
use Rattle.cell_records.specs.declared.container.Container.{Container}
use Rattle.cell_records.specs.declared.container_state.ContainerState.{ContainerState}
use Rattle.cell_records.specs.declared.container_state.ContainerState.TheVariants.{Reserved, Running, Completed}
use Rattle.cell_records.specs.declared.job_name.JobName.TheVariants as job
use Rattle.container_store.specs.Changes.{is_uncompleted}
use Rattle.crash_backoff.specs.declared.moment.Moment.{Moment}
use Rattle.diego_names.proofs.Public.{IsKeyOrder-name_order}
use Rattle.diego_names.specs.Order.{name_order}
use Rattle.diego_names.specs.declared.instance.Instance.{Instance}
use Rattle.diego_names.specs.declared.key.Key.{Key}
use Rattle.lrp_records.proofs.Public.{IsKeyOrder-place_order}
use Rattle.lrp_records.specs.Place.{place_of, place_order}
use Rattle.lrp_records.specs.States.{holder_of}
use Rattle.lrp_records.specs.declared.actual.Actual.{Actual}
use Rattle.lrp_records.specs.declared.presence.Presence.{Presence}
use Rattle.lrp_records.specs.declared.presence.Presence.TheVariants.{Ordinary, Evacuating, Suspect}
use Rattle.lrp_records.specs.declared.state.LrpState.{LrpState}
use Rattle.lrp_records.specs.declared.state.LrpState.TheVariants as lrp
use Rattle.row_tables.proofs.Public.{key-find_row}
use Rattle.task_records.specs.declared.state.TaskState.{TaskState}
use Rattle.task_records.specs.declared.state.TaskState.TheVariants as task
use Rattle.task_records.specs.declared.task.Task.{Task}
use Rattle.bbs_model.specs.Tables.{find_actual, find_cell, find_domain, find_task, cell_name_of, domain_name_of, task_name_of}
use Rattle.bbs_model.specs.Valid.{IsValid, IsRunning}
use Rattle.bbs_model.specs.Work as told
use Rattle.bbs_model.specs.declared.command.Op.{Op}
use Rattle.bbs_model.specs.declared.command.Op.TheVariants as op
use Rattle.bbs_model.specs.declared.domain_row.DomainRow.{DomainRow}
use Rattle.bbs_model.specs.declared.rows.Rows.{Rows}
use Rattle.convergence.specs.Containers.{Site, site_of, task_site_of}
use Rattle.convergence.specs.Plans.{told_of, asked_of_told, row_plan, outcome_plan, task_row_plan, actual_plan, task_plan}
use Rattle.convergence.specs.PlanLaws.{plan_on}
use Rattle.convergence.specs.Subjects.{Subject, OfCell, OfDomain, OfPlace, OfTask, OfProcess, work_on, ordinary_of}
use Rattle.converge_laws.proofs.Public.{suits-presence}
use Rattle.round_theorem.proofs.FairMoves.{FairIf, fair_either, removes, unclaims, crashes, restarts, makes, drops, drops_suspect, suspects, cancels, expires, kicks, completes, vanishes, forgets}

-- the row of a subject is as it was, and so is which instances are wanted
pub record IsAsBefore (old new : Rows) (s : Subject) : Type 0 where
  pub wanted : (key : Key) → told.wants new key ≡ told.wants old key
  pub ordinary : (key : Key) → s ≡ ordinary_of key → find_actual new key Ordinary ≡ find_actual old key Ordinary
  pub aside : (key : Key) → s ≡ OfPlace (key, Evacuating)
      → find_actual new key Evacuating ≡ find_actual old key Evacuating
  pub suspect : (key : Key) → s ≡ OfPlace (key, Suspect) → find_actual new key Suspect ≡ find_actual old key Suspect
  pub tasks : (name : List ℕ) → s ≡ OfTask name → find_task new name ≡ find_task old name
  pub cells : (name : List ℕ) → s ≡ OfCell name → find_cell new name ≡ find_cell old name
  pub domains : (name : List ℕ) → s ≡ OfDomain name → find_domain new name ≡ find_domain old name

-- the same cells are there
abbrev pub KeepsThere : Moment → Rows → Rows → Type 0
KeepsThere now old new = (cell : List ℕ) (epoch : ℕ) → told.is_there new now cell epoch
    ≡ told.is_there old now cell epoch

-- what is asked where a test holds
fair_asked : (rows : Rows) (now : Moment) (b : Bool) (o : Op) → (b ≡ true → FairIf rows now (Some o))
    → FairIf rows now (told.asked_if b o)
fair_asked rows now true o f = f refl
fair_asked rows now false o f = tt

-- what is asked of a row where a test holds, and of one where it doesn't
fair_cases : (rows : Rows) (now : Moment) (b : Bool) (x y : Option Op) → (b ≡ true → FairIf rows now x)
    → FairIf rows now y → FairIf rows now (cond b x y)
fair_cases rows now true x y f g = f refl
fair_cases rows now false x y f g = g

not_there : (b : Bool) → not b ≡ true → b ≡ false
not_there true e = absurd cc
not_there false e = refl

module _ (old new : Rows) (now : Moment) (valid : IsValid old) where
  -- where an ORDINARY row is as it was
  module _ (key : Key) (a : Actual) (is : find_actual new key Ordinary ≡ Some a) where
    gives_up : KeepsThere now old new → (wanted : Bool) (s : LrpState) → a.state ≡ s → told.is_lost old now s ≡ true
        → FairIf new now (told.given_up wanted key s)
    gives_up there wanted lrp.Unclaimed e lost = tt
    gives_up there wanted (lrp.Claimed i cell) e lost = unclaims new now key a is i cell (inl e)
    gives_up there true (lrp.Running i cell) e lost = suspects new now key a i cell is e
        (there cell i.epoch ∙ not_there (told.is_there old now cell i.epoch) lost)
    gives_up there false (lrp.Running i cell) e lost = unclaims new now key a is i cell (inr e)
    gives_up there wanted lrp.Crashed e lost = tt

    again : (s : LrpState) → a.state ≡ s → FairIf new now (told.restart_if_due key a now s)
    again lrp.Unclaimed e = tt
    again (lrp.Claimed i cell) e = tt
    again (lrp.Running i cell) e = tt
    again lrp.Crashed e = fair_asked new now (told.is_due a now) (op.Restart key)
        (λ due. restarts new now key a is e due)

  fair_ordinary : KeepsThere now old new → (key : Key) (o : Option Actual) → told.wants new key ≡ told.wants old key
      → find_actual new key Ordinary ≡ o → FairIf new now (told.ordinary_work old now key o)
  fair_ordinary there key None wanted is = fair_asked new now (told.wants old key) (op.Make key)
      (λ e. makes new now key (wanted ∙ e) is)
  fair_ordinary there key (Some a) wanted is =
      let given = told.given_up (told.wants old key) key a.state in
      let again' = cond (told.wants old key) (told.restart_if_due key a now a.state) None in
      fair_either new now (told.is_retirable old now key a) (Some (op.Remove key (holder_of a.state)))
      (cond (told.is_lost old now a.state) given again')
      (removes new now key a is)
      (fair_cases new now (told.is_lost old now a.state) given again'
      (gives_up key a is there (told.wants old key) a.state refl)
      (fair_either new now (told.wants old key) (told.restart_if_due key a now a.state) None
      (again key a is a.state refl) tt))

  -- an EVACUATING row
  dropped_if : (key : Key) (a : Actual) → find_actual new key Evacuating ≡ Some a → (s : LrpState) → a.state ≡ s
      → IsRunning s → FairIf new now (told.drop_row_of key s)
  dropped_if key a is lrp.Unclaimed e h = absurd h
  dropped_if key a is (lrp.Claimed i cell) e h = absurd h
  dropped_if key a is (lrp.Running i cell) e h = drops new now key a i cell is e
  dropped_if key a is lrp.Crashed e h = absurd h

  runs_so : (key : Key) (a : Actual) → find_actual old key Evacuating ≡ Some a → IsRunning a.state
  runs_so key a is = (suits-presence old key Evacuating a valid is).0

  fair_aside : (key : Key) (o : Option Actual) → find_actual old key Evacuating ≡ o → find_actual new key Evacuating ≡ o
      → FairIf new now (told.evacuating_work old now key o)
  fair_aside key None was is = tt
  fair_aside key (Some a) was is =
      fair_either new now (told.is_spent old now key a) (told.drop_row_of key a.state) None
      (dropped_if key a is a.state refl (runs_so key a was)) tt

  -- a SUSPECT row
  dropped_suspect : (key : Key) (a : Actual) → find_actual new key Suspect ≡ Some a → (s : LrpState) → a.state ≡ s
      → IsRunning s → FairIf new now (told.drop_suspect_of key s)
  dropped_suspect key a is lrp.Unclaimed e h = absurd h
  dropped_suspect key a is (lrp.Claimed i cell) e h = absurd h
  dropped_suspect key a is (lrp.Running i cell) e h = drops_suspect new now key a i cell is e
  dropped_suspect key a is lrp.Crashed e h = absurd h

  suspect_runs : (key : Key) (a : Actual) → find_actual old key Suspect ≡ Some a → IsRunning a.state
  suspect_runs key a is = (suits-presence old key Suspect a valid is).0

  fair_suspect : (key : Key) (o : Option Actual) → find_actual old key Suspect ≡ o → find_actual new key Suspect ≡ o
      → FairIf new now (told.suspect_work old now key o)
  fair_suspect key None was is = tt
  fair_suspect key (Some a) was is =
      fair_either new now (told.is_past old now key a) (told.drop_suspect_of key a.state) None
      (dropped_suspect key a is a.state refl (suspect_runs key a was)) tt

  -- a task
  fair_state : (n : List ℕ) (t : Task) → find_task new n ≡ Some t → t.name ≡ n → (s : TaskState) → t.state ≡ s
      → FairIf new now (told.asked_of_task old now t s)
  fair_state n t is names task.Pending e = fair_asked new now (told.has_passed 1800 t.since now) (op.CancelTask t.name)
      (λ due. subst (λ (m : List ℕ). FairIf new now (Some (op.CancelTask m))) (sym names)
      (cancels new now n t is task.Pending e (inl refl)))
  fair_state n t is names (task.Running i cell) e = fair_asked new now (not (told.is_there old now cell i.epoch))
      (op.CancelTask t.name)
      (λ due. subst (λ (m : List ℕ). FairIf new now (Some (op.CancelTask m))) (sym names)
      (cancels new now n t is (task.Running i cell) e (inr (i, cell, refl))))
  fair_state n t is names (task.Completed failed) e = fair_asked new now (told.has_passed 120 t.since now)
      (op.ExpireTask t.name)
      (λ due. subst (λ (m : List ℕ). FairIf new now (Some (op.ExpireTask m))) (sym names)
      (expires new now n t is failed e due))
  fair_state n t is names (task.Resolving failed) e = fair_asked new now (told.has_passed 30 t.since now)
      (op.KickTask t.name)
      (λ due. subst (λ (m : List ℕ). FairIf new now (Some (op.KickTask m))) (sym names)
      (kicks new now n t is failed e due))

  named_task : (n : List ℕ) (t : Task) → find_task old n ≡ Some t → t.name ≡ n
  named_task n t is = key-find_row name_order task_name_of IsKeyOrder-name_order n t old.tasks is

  fair_task : (n : List ℕ) (o : Option Task) → find_task old n ≡ o → find_task new n ≡ o
      → FairIf new now (option_and_then (told.task_work old now) o)
  fair_task n None was is = tt
  fair_task n (Some t) was is = fair_state n t is (named_task n t was) t.state refl

  fair_cell : (n : List ℕ) (o : Option CellRow) → find_cell old n ≡ o → find_cell new n ≡ o
      → FairIf new now (option_and_then (λ (c : CellRow). told.cell_work c now) o)
  fair_cell n None was is = tt
  fair_cell n (Some c) was is =
      let names : c.cell ≡ n = key-find_row name_order cell_name_of IsKeyOrder-name_order n c old.cells was in
      fair_asked new now (nat_le c.until now.0) (op.Vanish c.cell)
      (λ e. subst (λ (m : List ℕ). FairIf new now (Some (op.Vanish m))) (sym names) (vanishes new now c n is e))

  fair_until : (n : List ℕ) (d : DomainRow) → find_domain new n ≡ Some d → (u : Option ℕ) → d.until ≡ u
      → FairIf new now (option_and_then (λ (until : ℕ). told.asked_if (nat_le until now.0) (op.Forget n)) u)
  fair_until n d is None e = tt
  fair_until n d is (Some until) e = fair_asked new now (nat_le until now.0) (op.Forget n)
      (λ ended. forgets new now d n until is e ended)

  fair_domain : (n : List ℕ) (o : Option DomainRow) → find_domain old n ≡ o → find_domain new n ≡ o
      → FairIf new now (option_and_then (λ (d : DomainRow). told.domain_work d now) o)
  fair_domain n None was is = tt
  fair_domain n (Some d) was is =
      let names : d.domain ≡ n = key-find_row name_order domain_name_of IsKeyOrder-name_order n d old.domains was in
      subst (λ (m : List ℕ). FairIf new now (option_and_then
      (λ (until : ℕ). told.asked_if (nat_le until now.0) (op.Forget m)) d.until)) (sym names)
      (fair_until n d is d.until refl)

  -- the work on a subject
  pub fair-work : KeepsThere now old new → (s : Subject) → IsAsBefore old new s → FairIf new now (work_on old now s)
  fair-work there (OfCell n) h = fair_cell n (find_cell old n) refl (h.cells n refl)
  fair-work there (OfDomain n) h = fair_domain n (find_domain old n) refl (h.domains n refl)
  fair-work there (OfPlace (key, Ordinary)) h = fair_ordinary there key (find_actual old key Ordinary) (h.wanted key)
      (h.ordinary key refl)
  fair-work there (OfPlace (key, Evacuating)) h = fair_aside key (find_actual old key Evacuating) refl
      (h.aside key refl)
  fair-work there (OfPlace (key, Suspect)) h = fair_suspect key (find_actual old key Suspect) refl (h.suspect key refl)
  fair-work there (OfTask n) h = fair_task n (find_task old n) refl (h.tasks n refl)
  fair-work there (OfProcess n) h = tt

  -- what a plan asks of an ORDINARY row
  told_row : (key : Key) (i : Instance) (x : Option Container) (gone ended : Op) → FairIf new now (Some gone)
      → FairIf new now (Some ended) → FairIf new now (asked_of_told x gone ended)
  told_row key i None gone ended f g = f
  told_row key i (Some c) gone ended f g = fair_either new now (is_uncompleted c.state) None (Some ended) tt g

  planned_row : (p : Presence) (key : Key) (i : Instance) (gone : FairIf new now (row_plan p key i None))
      (x : Option (Option Container))
      → ((c : Option Container) → FairIf new now (row_plan p key i c))
      → FairIf new now (option_and_then (row_plan p key i) x)
  planned_row p key i gone None f = tt
  planned_row p key i gone (Some c) f = f c

  on_state : (a : Actual) (s : LrpState) → a.state ≡ s → (i : Instance) (cell : List ℕ)
      → (s ≡ lrp.Claimed i cell) ⊎ (s ≡ lrp.Running i cell)
      → (a.state ≡ lrp.Claimed i cell) ⊎ (a.state ≡ lrp.Running i cell)
  on_state a s e i cell (inl at) = inl (e ∙ at)
  on_state a s e i cell (inr at) = inr (e ∙ at)

  drops_here : (key : Key) (a : Actual) → find_actual old key Evacuating ≡ Some a
      → find_actual new key Evacuating ≡ Some a → (i : Instance) (cell : List ℕ)
      → (a.state ≡ lrp.Claimed i cell) ⊎ (a.state ≡ lrp.Running i cell)
      → FairIf new now (Some (op.DropEvacuating key i))
  drops_here key a was is i cell (inl at) = absurd (subst IsRunning at (runs_so key a was))
  drops_here key a was is i cell (inr at) = drops new now key a i cell is at

  drops_suspect_here : (key : Key) (a : Actual) → find_actual old key Suspect ≡ Some a
      → find_actual new key Suspect ≡ Some a → (i : Instance) (cell : List ℕ)
      → (a.state ≡ lrp.Claimed i cell) ⊎ (a.state ≡ lrp.Running i cell) → FairIf new now (Some (op.DropSuspect key i))
  drops_suspect_here key a was is i cell (inl at) = absurd (subst IsRunning at (suspect_runs key a was))
  drops_suspect_here key a was is i cell (inr at) = drops_suspect new now key a i cell is at

  row_here : (key : Key) (p : Presence) (a : Actual) → find_actual old key p ≡ Some a → find_actual new key p ≡ Some a
      → (s : LrpState) → a.state ≡ s → (i : Instance) (cell : List ℕ)
      → (s ≡ lrp.Claimed i cell) ⊎ (s ≡ lrp.Running i cell) → (c : Option Container)
      → FairIf new now (row_plan p key i c)
  row_here key Ordinary a was is s e i cell at c =
      told_row key i c (op.Unclaim key i) (op.Crash key i) (unclaims new now key a is i cell (on_state a s e i cell at))
      (crashes new now key a is i cell (on_state a s e i cell at))
  row_here key Evacuating a was is s e i cell at c =
      let dropping = drops_here key a was is i cell (on_state a s e i cell at) in
      told_row key i c (op.DropEvacuating key i) (op.DropEvacuating key i) dropping dropping
  row_here key Suspect a was is s e i cell at c =
      let dropping = drops_suspect_here key a was is i cell (on_state a s e i cell at) in
      told_row key i c (op.DropSuspect key i) (op.DropSuspect key i) dropping dropping

  fair_site : (got : List Answer) (key : Key) (p : Presence) (a : Actual) → find_actual old key p ≡ Some a
      → find_actual new key p ≡ Some a → (s : LrpState) → a.state ≡ s
      → FairIf new now (option_and_then (λ (site : Site). option_and_then (row_plan p key site.0)
      (told_of got (job.Lrp key) site)) (site_of s))
  fair_site got key p a was is lrp.Unclaimed e = tt
  fair_site got key p a was is (lrp.Claimed i cell) e =
      planned_row p key i (row_here key p a was is (lrp.Claimed i cell) e i cell (inl refl) None)
      (told_of got (job.Lrp key) (i, cell)) (row_here key p a was is (lrp.Claimed i cell) e i cell (inl refl))
  fair_site got key p a was is (lrp.Running i cell) e =
      planned_row p key i (row_here key p a was is (lrp.Running i cell) e i cell (inr refl) None)
      (told_of got (job.Lrp key) (i, cell)) (row_here key p a was is (lrp.Running i cell) e i cell (inr refl))
  fair_site got key p a was is lrp.Crashed e = tt

  fair_row : (got : List Answer) (key : Key) (p : Presence) (o : Option Actual) → find_actual old key p ≡ o
      → find_actual new key p ≡ o → FairIf new now (option_and_then (actual_plan got) o)
  fair_row got key p None was is = tt
  fair_row got key p (Some a) was is =
      let place : place_of a ≡ (key, p) = key-find_row place_order place_of IsKeyOrder-place_order
      (key, p) a old.actual was in
      subst (λ (q : Key × Presence). FairIf new now (option_and_then
      (λ (site : Site). option_and_then (row_plan q.1 q.0 site.0) (told_of got (job.Lrp q.0) site))
      (site_of a.state))) (sym place)
      (fair_site got key p a was is a.state refl)

  -- and of a task
  outcome_fair : (n : List ℕ) (t : Task) (i : Instance) (cell : List ℕ) → find_task new n ≡ Some t
      → t.state ≡ task.Running i cell → (s : ContainerState) → FairIf new now (outcome_plan n i s)
  outcome_fair n t i cell is e Reserved = tt
  outcome_fair n t i cell is e Running = tt
  outcome_fair n t i cell is e (Completed failed) = completes new now n t is i cell failed e

  task_told : (n : List ℕ) (t : Task) (i : Instance) (cell : List ℕ) → find_task new n ≡ Some t
      → t.state ≡ task.Running i cell → (x : Option (Option Container))
      → FairIf new now (option_and_then (task_row_plan n i) x)
  task_told n t i cell is e None = tt
  task_told n t i cell is e (Some None) = cancels new now n t is (task.Running i cell) e (inr (i, cell, refl))
  task_told n t i cell is e (Some (Some c)) = outcome_fair n t i cell is e c.state

  task_site : (got : List Answer) (n : List ℕ) (t : Task) → find_task new n ≡ Some t → (s : TaskState) → t.state ≡ s
      → FairIf new now (option_and_then (λ (site : Site). option_and_then (task_row_plan n site.0)
      (told_of got (job.Task n) site)) (task_site_of s))
  task_site got n t is task.Pending e = tt
  task_site got n t is (task.Running i cell) e = task_told n t i cell is e (told_of got (job.Task n) (i, cell))
  task_site got n t is (task.Completed failed) e = tt
  task_site got n t is (task.Resolving failed) e = tt

  fair_told : (got : List Answer) (n : List ℕ) (o : Option Task) → find_task old n ≡ o → find_task new n ≡ o
      → FairIf new now (option_and_then (task_plan got) o)
  fair_told got n None was is = tt
  fair_told got n (Some t) was is =
      subst (λ (m : List ℕ). FairIf new now (option_and_then
      (λ (site : Site). option_and_then (task_row_plan m site.0) (told_of got (job.Task m) site))
      (task_site_of t.state))) (sym (named_task n t was))
      (task_site got n t is t.state refl)

  pub fair-plan : (got : List Answer) (s : Subject) → IsAsBefore old new s → FairIf new now (plan_on old got s)
  fair-plan got (OfCell n) h = tt
  fair-plan got (OfDomain n) h = tt
  fair-plan got (OfPlace (key, Ordinary)) h = fair_row got key Ordinary (find_actual old key Ordinary) refl
      (h.ordinary key refl)
  fair-plan got (OfPlace (key, Evacuating)) h = fair_row got key Evacuating (find_actual old key Evacuating) refl
      (h.aside key refl)
  fair-plan got (OfPlace (key, Suspect)) h = fair_row got key Suspect (find_actual old key Suspect) refl
      (h.suspect key refl)
  fair-plan got (OfTask n) h = fair_told got n (find_task old n) refl (h.tasks n refl)
  fair-plan got (OfProcess n) h = tt
