-- The command of a subject that is due is what is asked of it.
use Rattle.std.proofs.Common.{◌≡◌, ℕ, Bool, true, false, cond, not, ◌&&◌, List, ◌++◌, map, nat_le, Option, Some, None, is_some, refl, ap, sym, ◌∙◌}
use Rattle.std.proofs.lemmas.List.Elements.{filter_map-append}
use Rattle.std.specs.List.{Contains, filter_map}
use Rattle.std.specs.Option.{option_and_then}
use Rattle.cell_records.specs.declared.cell_row.CellRow.{CellRow}
use Rattle.crash_backoff.specs.declared.moment.Moment.{Moment}
use Rattle.diego_names.proofs.Public.{IsKeyOrder-name_order}
use Rattle.diego_names.specs.Order.{name_order}
use Rattle.diego_names.specs.declared.key.Key.{Key}
use Rattle.lrp_records.specs.States.{holder_of}
use Rattle.lrp_records.specs.declared.actual.Actual.{Actual}
use Rattle.lrp_records.specs.declared.presence.Presence.{Presence}
use Rattle.lrp_records.specs.declared.presence.Presence.TheVariants.{Ordinary, Evacuating, Suspect}
use Rattle.lrp_records.specs.declared.state.LrpState.{LrpState}
use Rattle.lrp_records.specs.declared.state.LrpState.TheVariants as lrp
use Rattle.row_tables.proofs.Public.{key-find_row}
use Rattle.task_records.specs.declared.state.TaskState.{TaskState}
use Rattle.task_records.specs.declared.state.TaskState.TheVariants as task
use Rattle.task_records.specs.declared.task.Task.{Task}
use Rattle.bbs_model.specs.Tables.{cell_name_of, domain_name_of, task_name_of, find_actual, find_cell, find_domain, find_task}
use Rattle.bbs_model.specs.Valid.{IsValid}
use Rattle.bbs_model.specs.Work as told
use Rattle.bbs_model.specs.declared.command.Op.{Op}
use Rattle.bbs_model.specs.declared.command.Op.TheVariants as op
use Rattle.bbs_model.specs.declared.domain_row.DomainRow.{DomainRow}
use Rattle.bbs_model.specs.declared.rows.Rows.{Rows}
use Rattle.convergence.specs.Subjects.{Subject, OfCell, OfDomain, OfPlace, OfTask, work_on}
use Rattle.work_causes.proofs.Public.{goes}
use Rattle.work_causes.specs.Causes.{ends_of, going, holds_by}
use Rattle.differences.specs.Commands.{command_at_place, command_of_task, commands_of, forget, goes_by, mended, ops_of, ordinary_command, state_command, task_command, vanish}
use Rattle.differences.specs.Due.{AreUnique, DueKeys, due_in, subjects_in}
use Rattle.differences.specs.Noted.{Noted, ends_by, is_below, is_counted}
use Rattle.differences.specs.Standing.{StandsFor}
use Rattle.differences.proofs.DueLists.{filter_map-agree, filter_map-map}
use Rattle.differences.proofs.DueWork.{due_is_asked, in_cells, in_domains, in_places, in_tasks, work_is_due}
use Rattle.differences.proofs.Standing.{wants_counted}

-- what is asked where a test passes, and something is
asked_some : (b : Bool) (x : Op) → is_some (told.asked_if b x) ≡ true → told.asked_if b x ≡ Some x
asked_some true x e = refl
asked_some false x e = absurd cc

-- a row that goes, or is mended, where something is asked of it
kept_some : (w g l : Bool) (x : Op) (y z : Option Op) → is_some (cond (not w && g) (Some x) (cond l y (cond w z None)))
    ≡ true
    → (m : Option Op) → (l ≡ true → y ≡ m) → (l ≡ false → w ≡ true → is_some z ≡ true → z ≡ m)
    → cond (not w && g) (Some x) (cond l y (cond w z None)) ≡ cond (not w && g) (Some x) m
kept_some false true l x y z e m given again = refl
kept_some false false true x y z e m given again = given refl
kept_some false false false x y z e m given again = absurd cc
kept_some true g true x y z e m given again = given refl
kept_some true g false x y z e m given again = again refl refl e

dropped_some : (b : Bool) (x : Option Op) → is_some (cond b x None) ≡ true → cond b x None ≡ x
dropped_some true x e = refl
dropped_some false x e = absurd cc

module _ (rows : Rows) (now : Moment) where
  cell_command : (q : List ℕ) → is_some (work_on rows now (OfCell q)) ≡ true
      → work_on rows now (OfCell q) ≡ Some (op.Vanish q)
  cell_command q e =
      elim (find_cell rows q) as (λ (s : Option CellRow). find_cell rows q ≡ s
      → is_some (option_and_then (λ (c : CellRow). told.cell_work c now) s) ≡ true
      → option_and_then (λ (c : CellRow). told.cell_work c now) s ≡ Some (op.Vanish q)) [
        | None ↦ λ is h. absurd cc
        | (Some c) ↦ λ is h. asked_some (nat_le c.until now.0) (op.Vanish c.cell) h
            ∙ ap (λ (n : List ℕ). Some (op.Vanish n)) (key-find_row name_order cell_name_of IsKeyOrder-name_order q c
            rows.cells is)
      ] refl e

  domain_row_command : (d : DomainRow) (u : Option ℕ) → is_some
      (option_and_then (λ (until : ℕ). told.asked_if (nat_le until now.0) (op.Forget d.domain)) u) ≡ true
      → option_and_then (λ (until : ℕ). told.asked_if (nat_le until now.0) (op.Forget d.domain)) u
      ≡ Some (op.Forget d.domain)
  domain_row_command d None e = absurd cc
  domain_row_command d (Some until) e = asked_some (nat_le until now.0) (op.Forget d.domain) e

  domain_command : (q : List ℕ) → is_some (work_on rows now (OfDomain q)) ≡ true
      → work_on rows now (OfDomain q) ≡ Some (op.Forget q)
  domain_command q e =
      elim (find_domain rows q) as (λ (s : Option DomainRow). find_domain rows q ≡ s
      → is_some (option_and_then (λ (d : DomainRow). told.domain_work d now) s) ≡ true
      → option_and_then (λ (d : DomainRow). told.domain_work d now) s ≡ Some (op.Forget q)) [
        | None ↦ λ is h. absurd cc
        | (Some d) ↦ λ is h. domain_row_command d d.until h
            ∙ ap (λ (n : List ℕ). Some (op.Forget n)) (key-find_row name_order domain_name_of IsKeyOrder-name_order q d
            rows.domains is)
      ] refl e

  task_state_command : (t : Task) (s : TaskState) → is_some (told.asked_of_task rows now t s) ≡ true
      → told.asked_of_task rows now t s ≡ Some (state_command t.name s)
  task_state_command t task.Pending e = asked_some (told.has_passed 1800 t.since now) (op.CancelTask t.name) e
  task_state_command t (task.Running instance cell) e = asked_some (not (told.is_there rows now cell instance.epoch))
      (op.CancelTask t.name) e
  task_state_command t (task.Completed failed) e = asked_some (told.has_passed 120 t.since now) (op.ExpireTask t.name) e
  task_state_command t (task.Resolving failed) e = asked_some (told.has_passed 30 t.since now) (op.KickTask t.name) e

  of_task_command : (q : List ℕ) → is_some (work_on rows now (OfTask q)) ≡ true
      → work_on rows now (OfTask q) ≡ command_of_task rows q
  of_task_command q e =
      elim (find_task rows q) as (λ (s : Option Task). find_task rows q ≡ s
      → is_some (option_and_then (told.task_work rows now) s) ≡ true
      → option_and_then (told.task_work rows now) s ≡ task_command q s) [
        | None ↦ λ is h. refl
        | (Some t) ↦ λ is h. task_state_command t t.state h
            ∙ ap (λ (n : List ℕ). Some (state_command n t.state))
            (key-find_row name_order task_name_of IsKeyOrder-name_order q t rows.tasks is)
      ] refl e

  -- an ORDINARY row, by its state
  standing_command : (w : Bool) (key : Key) (a : Actual) (s : LrpState) (remove : Op)
      → is_some (cond (not w && told.may_go rows now a) (Some remove)
      (cond (told.is_lost rows now s) (told.given_up w key s) (cond w (told.restart_if_due key a now s) None)))
      ≡ true
      → cond (not w && told.may_go rows now a) (Some remove)
      (cond (told.is_lost rows now s) (told.given_up w key s) (cond w (told.restart_if_due key a now s) None))
      ≡ cond (not w && told.may_go rows now a) (Some remove) (mended w key s)
  standing_command w key a lrp.Unclaimed remove e =
      kept_some w (told.may_go rows now a) false remove None None e (mended w key lrp.Unclaimed) (λ l. absurd cc)
      (λ l t z. absurd cc)
  standing_command w key a (lrp.Claimed instance cell) remove e =
      kept_some w (told.may_go rows now a) (not (told.is_there rows now cell instance.epoch)) remove
      (Some (op.Unclaim key instance)) None e
      (mended w key (lrp.Claimed instance cell)) (λ l. refl) (λ l t z. absurd cc)
  standing_command w key a (lrp.Running instance cell) remove e =
      kept_some w (told.may_go rows now a) (not (told.is_there rows now cell instance.epoch)) remove
      (Some (cond w (op.Suspect key instance) (op.Unclaim key instance))) None e
      (mended w key (lrp.Running instance cell)) (λ l. refl) (λ l t z. absurd cc)
  standing_command w key a lrp.Crashed remove e =
      kept_some w (told.may_go rows now a) false remove None (told.asked_if (told.is_due a now) (op.Restart key)) e
      (mended w key lrp.Crashed) (λ l. absurd cc) (λ l t z. asked_some (told.is_due a now) (op.Restart key) z)

module _ (d : Noted) (rows : Rows) (now : Moment) (stands : StandsFor d rows) where
  counted_wants : (key : Key) → is_counted d.wanted key ≡ told.wants rows key
  counted_wants key = ap (λ (n : Option ℕ). is_below n key.index) (stands.wanted key.process) ∙ wants_counted rows key

  -- what keeps a row lasts by what is kept as by the rows
  goes_kept : (domain : Option (List ℕ)) → holds_by (ends_by d.cells d.domains) now (going domain)
      ≡ holds_by (ends_of rows) now (going domain)
  goes_kept domain = λ i. holds_by (record { cells = λ q. stands.cells q i; domains = λ q. stands.domains q i }) now
      (going domain)

  goes_alike : (key : Key) (a : Actual) → goes_by (ends_by d.cells d.domains) now (is_counted d.wanted key) a
      ≡ told.is_retirable rows now key a
  goes_alike key a = (λ i. not (counted_wants key i) && goes_kept a.domain i) ∙ ap
      (λ (b : Bool). not (told.wants rows key) && b) (goes rows now a.domain)

  ordinary_agrees : (key : Key) (row : Option Actual) → is_some (told.ordinary_work rows now key row) ≡ true
      → told.ordinary_work rows now key row ≡ ordinary_command (ends_by d.cells d.domains) now
      (is_counted d.wanted key) key row
  ordinary_agrees key None e = asked_some (told.wants rows key) (op.Make key) e
  ordinary_agrees key (Some a) e =
      standing_command rows now (told.wants rows key) key a a.state (op.Remove key (holder_of a.state)) e
      ∙ (λ i. cond (sym (goes_alike key a) i) (Some (op.Remove key (holder_of a.state)))
      (mended (sym (counted_wants key) i) key a.state))

  evacuating_agrees : (key : Key) (row : Option Actual) → is_some (told.evacuating_work rows now key row) ≡ true
      → told.evacuating_work rows now key row ≡ option_and_then (λ (a : Actual). told.drop_row_of key a.state) row
  evacuating_agrees key None e = absurd cc
  evacuating_agrees key (Some a) e = dropped_some (told.is_spent rows now key a) (told.drop_row_of key a.state) e

  suspect_agrees : (key : Key) (row : Option Actual) → is_some (told.suspect_work rows now key row) ≡ true
      → told.suspect_work rows now key row ≡ option_and_then (λ (a : Actual). told.drop_suspect_of key a.state) row
  suspect_agrees key None e = absurd cc
  suspect_agrees key (Some a) e = dropped_some (told.is_past rows now key a) (told.drop_suspect_of key a.state) e

  place_agrees : (p : Key × Presence) → is_some (work_on rows now (OfPlace p)) ≡ true
      → work_on rows now (OfPlace p) ≡ command_at_place d rows now p
  place_agrees (key, Ordinary) e = ordinary_agrees key (find_actual rows key Ordinary) e
  place_agrees (key, Evacuating) e = evacuating_agrees key (find_actual rows key Evacuating) e
  place_agrees (key, Suspect) e = suspect_agrees key (find_actual rows key Suspect) e

module _ (d : Noted) (rows : Rows) (now : Moment) (v : IsValid rows) (stands : StandsFor d rows)
    (once : AreUnique d) where
  abbrev due : DueKeys
  due = due_in d now

  -- the commands of a kind of subject
  part_read : {K : Type 0} (of : K → Subject) (command : K → Option Op) (ks : List K)
      → ((k : K) → Contains ks k → Contains (subjects_in due) (of k))
      → ((k : K) → is_some (work_on rows now (of k)) ≡ true → work_on rows now (of k) ≡ command k)
      → filter_map (work_on rows now) (map of ks) ≡ filter_map command ks
  part_read of command ks inside agree =
      filter_map-map (work_on rows now) of ks
      ∙ filter_map-agree (λ k. work_on rows now (of k)) command ks
      (λ k h. agree k (due_is_asked d rows now v stands once (of k) (inside k h)))

  ops_agree : filter_map (work_on rows now) (subjects_in due) ≡ ops_of d rows now due
  ops_agree =
      let f : Subject → Option Op = work_on rows now in
      let cells = map OfCell due.cells in
      let domains = map OfDomain due.domains in
      let places = map OfPlace due.places in
      let tasks = map OfTask due.tasks in
      filter_map-append f cells (domains ++ (places ++ tasks))
      ∙ ap (λ (xs : List Op). filter_map f cells ++ xs) (filter_map-append f domains (places ++ tasks)
      ∙ ap (λ (xs : List Op). filter_map f domains ++ xs) (filter_map-append f places tasks))
      ∙ (λ i. part_read OfCell vanish due.cells (in_cells d rows now v stands once) (cell_command rows now) i
      ++ (part_read OfDomain forget due.domains (in_domains d rows now v stands once) (domain_command rows now) i
      ++ (part_read OfPlace (command_at_place d rows now) due.places (in_places d rows now v stands once)
      (place_agrees d rows now stands) i
      ++ part_read OfTask (command_of_task rows) due.tasks (in_tasks d rows now v stands once)
      (of_task_command rows now) i)))

  -- the commands of what is due are what convergence asks
  pub commands_are_work : commands_of d rows now due ≡ told.work rows now
  commands_are_work = sym (work_is_due d rows now v stands once ∙ ap (map (told.at now)) ops_agree)
