-- Once each row that waits for a place is claimed, all is as it should be.
use Rattle.std.proofs.Common.{◌≡◌, ℕ, true, List, Option, ap, sym, ◌∙◌, subst, ⊎_elim}
use Rattle.std.specs.List.{Contains}
use Rattle.cell_records.specs.declared.answer.Answer.{Answer}
use Rattle.cell_records.specs.declared.container.Container.{Container}
use Rattle.cell_records.specs.declared.job_name.JobName.{JobName}
use Rattle.cell_records.specs.declared.job_name.JobName.TheVariants as job
use Rattle.container_store.specs.Changes.{is_uncompleted}
use Rattle.crash_backoff.specs.declared.moment.Moment.{Moment}
use Rattle.diego_names.proofs.Public.{IsKeyOrder-name_order}
use Rattle.diego_names.specs.Order.{name_order}
use Rattle.diego_names.specs.declared.instance.Instance.{Instance}
use Rattle.diego_names.specs.declared.key.Key.{Key}
use Rattle.lrp_records.specs.declared.actual.Actual.{Actual}
use Rattle.lrp_records.specs.declared.presence.Presence.{Presence}
use Rattle.lrp_records.specs.declared.presence.Presence.TheVariants.{Ordinary, Evacuating, Suspect}
use Rattle.row_tables.proofs.Public.{find_row-Contains}
use Rattle.bbs_model.specs.Runs.{state_after_all}
use Rattle.bbs_model.specs.Tables.{task_name_of, find_actual}
use Rattle.bbs_model.specs.Valid.{IsValid}
use Rattle.bbs_model.specs.Work.{is_there}
use Rattle.bbs_model.specs.declared.command.Command.{Command}
use Rattle.bbs_model.specs.declared.rows.Rows.{Rows}
use Rattle.convergence.specs.Containers.{row_names, is_named_for, is_named}
use Rattle.converge_laws.specs.Converged.{IsConverged}
use Rattle.converge_laws.specs.Stages.{IsClaimOf, IsClaimed, IsWith}
use Rattle.converge_laws.proofs.Lists.{zip_back}
use Rattle.converge_laws.proofs.Naming.{named-from, named-by}
use Rattle.converge_laws.proofs.Runs.{run-valid}
use Rattle.converge_laws.proofs.Claims.{IsClaiming, ground, there-before}
use Rattle.converge_laws.proofs.ClaimRows.{settled-ground, settled-rows, aside-done, suspect-done, aside-same, suspect-same, names-still, names-claimed}
use Rattle.converge_laws.proofs.ClaimTasks.{IsTaskAt, task-done, task-names-still, task-names-claimed}

module _ (rows : Rows) (before after : List Answer) (now : Moment) (cs : List Command)
    (g : IsClaiming rows before after now cs) where
  abbrev new : Rows
  new = state_after_all rows cs

  -- a row that names a container goes on to name it
  names-kept : (key : Key) (instance : Instance) (p : Presence) → row_names (find_actual rows key p) instance ≡ true
      → row_names (find_actual new key p) instance ≡ true
  names-kept key instance Ordinary named = (names-still rows before after now cs g) key instance named
  names-kept key instance Evacuating named = ap (λ (r : Option Actual). row_names r instance)
      ((aside-same rows before after now cs g) key) ∙ named
  names-kept key instance Suspect named = ap (λ (r : Option Actual). row_names r instance)
      ((suspect-same rows before after now cs g) key) ∙ named

  named-still : (j : JobName) (instance : Instance) → is_named_for j rows instance ≡ true
      → is_named_for j new instance ≡ true
  named-still (job.Lrp key) instance named =
      let by = named-by rows key instance named in
      named-from new key instance by.0 (names-kept key instance by.0 by.1)
  named-still (job.Task name) instance named = (task-names-still rows before after now cs g) name instance named

  named-claimed : (j : JobName) (instance : Instance) (cell : List ℕ) (c : Command) → Contains cs c
      → IsClaimOf j instance cell c.op → is_named_for j new instance ≡ true
  named-claimed (job.Lrp key) instance cell c inside claims =
      named-from new key instance Ordinary ((names-claimed rows before after now cs g) key c instance cell inside
      claims)
  named-claimed (job.Task name) instance cell c inside claims =
      (task-names-claimed rows before after now cs g) name c instance cell inside claims

  all-named : (y : Answer) (c : Container) → Contains after y → is_there new now y.cell y.epoch ≡ true
      → Contains y.containers c → is_named new c ≡ true
  all-named y c in_y there in_c =
      let x = zip_back (IsWith cs) before after y g.with_claims in_y in
      let here : is_there rows now y.cell y.epoch ≡ true =
      sym ((ground rows before after now cs g).there y.cell y.epoch) ∙ there in
      ⊎_elim
      (λ (old : Contains x.0.containers c). named-still c.job c.instance
      (g.cleared.clear x.0 c x.1 ((there-before rows before after now cs g) x.0 y x.2.same here) old).1)
      (λ (fresh : IsClaimed cs c.job c.instance x.0.cell × (is_uncompleted c.state ≡ true)).
      named-claimed c.job c.instance x.0.cell fresh.0.command fresh.0.inside fresh.0.claims)
      (x.2.new c in_c)

  valid-new : IsValid new
  valid-new = run-valid rows cs g.valid

  pub claims-converge : IsConverged new after now
  claims-converge = record {
    ordinary = λ key. (settled-ground rows before after now cs g) key (find_actual new key Ordinary)
        ((settled-rows rows before after now cs g) key);
    aside = λ key. (aside-done rows before after now cs g) key;
    suspected = λ key. (suspect-done rows before after now cs g) key;
    tasks = λ t inside. subst ((IsTaskAt rows before after now cs g) t.name)
        (find_row-Contains name_order task_name_of IsKeyOrder-name_order t new.tasks valid-new.tasks.rising inside)
        ((task-done rows before after now cs g) t.name);
    containers = all-named;
  }
