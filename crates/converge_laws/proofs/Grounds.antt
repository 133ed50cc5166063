-- What is asked depends on which cells are there, which instances are wanted and which domains are fresh alone.
use Rattle.std.proofs.Common.{◌≡◌, ℕ, Bool, true, cond, not, ◌&&◌, List, Option, Some, None, refl, ap, ◌∙◌}
use Rattle.std.specs.Option.{option_map_or}
use Rattle.crash_backoff.specs.declared.moment.Moment.{Moment}
use Rattle.diego_names.specs.declared.key.Key.{Key}
use Rattle.lrp_records.specs.States.{holder_of}
use Rattle.lrp_records.specs.declared.actual.Actual.{Actual}
use Rattle.lrp_records.specs.declared.state.LrpState.{LrpState}
use Rattle.lrp_records.specs.declared.state.LrpState.TheVariants as lrp
use Rattle.task_records.specs.declared.state.TaskState.{TaskState}
use Rattle.task_records.specs.declared.state.TaskState.TheVariants as task
use Rattle.task_records.specs.declared.task.Task.{Task}
use Rattle.bbs_model.specs.Work as told
use Rattle.bbs_model.specs.declared.command.Op.TheVariants as op
use Rattle.bbs_model.specs.declared.rows.Rows.{Rows}
use Rattle.converge_laws.specs.Laws.{KeepsGround}

module _ (now : Moment) (old new : Rows) (ground : KeepsGround now old new) where
  pub lost-ground : (s : LrpState) → told.is_lost new now s ≡ told.is_lost old now s
  lost-ground lrp.Unclaimed = refl
  lost-ground (lrp.Claimed instance cell) = ap not (ground.there cell instance.epoch)
  lost-ground (lrp.Running instance cell) = ap not (ground.there cell instance.epoch)
  lost-ground lrp.Crashed = refl

  runs_in-ground : (s : LrpState) → told.runs_in new now s ≡ told.runs_in old now s
  runs_in-ground lrp.Unclaimed = refl
  runs_in-ground (lrp.Claimed instance cell) = refl
  runs_in-ground (lrp.Running instance cell) = ground.there cell instance.epoch
  runs_in-ground lrp.Crashed = refl

  pub runs_there-ground : (row : Option Actual) → told.runs_there new now row ≡ told.runs_there old now row
  runs_there-ground None = refl
  runs_there-ground (Some a) = runs_in-ground a.state

  domain-ground : (domain : Option (List ℕ)) → option_map_or (told.fresh_in new now) domain true
      ≡ option_map_or (told.fresh_in old now) domain true
  domain-ground None = refl
  domain-ground (Some name) = ground.fresh name

  pub may_go-ground : (a : Actual) → told.may_go new now a ≡ told.may_go old now a
  may_go-ground a = domain-ground a.domain

  pub retirable-ground : (key : Key) (a : Actual) → told.is_retirable new now key a ≡ told.is_retirable old now key a
  retirable-ground key a = ap (λ (b : Bool). not b && told.may_go new now a) (ground.wanted key) ∙ ap
      (λ (b : Bool). not (told.wants old key) && b) (may_go-ground a)

  pub ordinary-ground : (key : Key) (row : Option Actual)
      → told.ordinary_work new now key row ≡ told.ordinary_work old now key row
  ordinary-ground key None = ap (λ (b : Bool). told.asked_if b (op.Make key)) (ground.wanted key)
  ordinary-ground key (Some a) =
      ap (λ (b : Bool). cond b (Some (op.Remove key (holder_of a.state)))
      (cond (told.is_lost new now a.state) (told.given_up (told.wants new key) key a.state)
      (cond (told.wants new key) (told.restart_if_due key a now a.state) None))) (retirable-ground key a)
      ∙ ap (λ (b : Bool). cond (told.is_retirable old now key a) (Some (op.Remove key (holder_of a.state)))
      (cond b (told.given_up (told.wants new key) key a.state)
      (cond (told.wants new key) (told.restart_if_due key a now a.state) None))) (lost-ground a.state)
      ∙ ap (λ (b : Bool). cond (told.is_retirable old now key a) (Some (op.Remove key (holder_of a.state)))
      (cond (told.is_lost old now a.state) (told.given_up b key a.state)
      (cond b (told.restart_if_due key a now a.state) None))) (ground.wanted key)

  state-ground : (t : Task) (s : TaskState) → told.asked_of_task new now t s ≡ told.asked_of_task old now t s
  state-ground t task.Pending = refl
  state-ground t (task.Running instance cell) = ap (λ (b : Bool). told.asked_if (not b) (op.CancelTask t.name))
      (ground.there cell instance.epoch)
  state-ground t (task.Completed failed) = refl
  state-ground t (task.Resolving failed) = refl

  pub task-ground : (t : Task) → told.task_work new now t ≡ told.task_work old now t
  task-ground t = state-ground t t.state
