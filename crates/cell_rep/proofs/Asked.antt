-- An act that names a job looks at the containers of that job alone.
use Rattle.std.proofs.Common.{◌≡◌, ℕ, Bool, true, false, cond, ◌&&◌, ◌||◌, not, List, [], ◌∷◌, filter, Option, Some, None, refl, sym, ap, ◌∙◌}
use Rattle.std.specs.List.{filter_map, cons_option, list_any}
use Rattle.std.specs.Option.{option_map_or, unwrap_or}
use Rattle.cell_records.specs.declared.container.Container.{Container}
use Rattle.cell_records.specs.declared.job_name.JobName.{JobName}
use Rattle.container_store.specs.Changes.{is_reserved}
use Rattle.container_store.specs.Jobs.{is_same_job}
use Rattle.container_store.specs.Lookups.{those_of}
use Rattle.container_store.specs.declared.refusal.StoreRefusal.TheVariants.{Unknown}
use Rattle.crash_backoff.specs.declared.moment.Moment.{Moment}
use Rattle.cell_rep.specs.Acts.{named_in, comes_up, start_todo, each_todo, refused_each, each_refusal, or_idle, each_plan, plan_joined, plan}
use Rattle.cell_rep.specs.Kinds.{IsOfEach}
use Rattle.cell_rep.specs.Reps.{containers_of, is_draining}
use Rattle.cell_rep.specs.declared.call_end.RepRefusal.{RepRefusal}
use Rattle.cell_rep.specs.declared.call_end.RepRefusal.TheVariants.{Store}
use Rattle.cell_rep.specs.declared.cell_act.CellAct.{CellAct}
use Rattle.cell_rep.specs.declared.cell_act.CellAct.TheVariants as act
use Rattle.cell_rep.specs.declared.joined.Joined.{Joined}
use Rattle.cell_rep.specs.declared.rep.CellRep.{CellRep}
use Rattle.cell_rep.specs.declared.todo.Todo.{Todo}
use Rattle.cell_rep.specs.declared.todo.Todo.TheVariants.{Local}

never : (b : Bool) → (b && false) ≡ false
never true = refl
never false = refl

module _ (job : JobName) where
  abbrev of_job : Container → Bool
  of_job c = is_same_job job c.job

  -- a container of another job does not come up
  others : (c : Container) → of_job c ≡ false → comes_up (Some job) c ≡ false
  others c other = ap (λ b. is_reserved c.state && b) other ∙ never (is_reserved c.state)

  module _ (now : Moment) (cell : List ℕ) (draining : Bool) where
    abbrev call : Container → Option Todo
    call c = each_todo (act.Up (Some job)) now cell draining c

    calls_of : (cs : List Container) → filter_map (each_todo (act.Up (Some job)) now cell draining)
        (filter (λ c. is_same_job job c.job) cs) ≡ filter_map (each_todo (act.Up (Some job)) now cell draining) cs
    calls_of [] = refl
    calls_of (c ∷ cs) =
        elim (of_job c) as (λ t. of_job c ≡ t → filter_map (each_todo (act.Up (Some job)) now cell draining)
        (cond t (c ∷ filter (λ d. is_same_job job d.job) cs) (filter (λ d. is_same_job job d.job) cs))
        ≡ cons_option (call c) (filter_map (each_todo (act.Up (Some job)) now cell draining) cs)) [
          | true ↦ λ is. ap (cons_option (call c)) (calls_of cs)
          | false ↦ λ is.
              calls_of cs
              ∙ ap (λ b. cons_option (cond b (start_todo now cell c.job c.instance) None)
              (filter_map (each_todo (act.Up (Some job)) now cell draining) cs)) (sym (others c is))
        ] refl

  any_of : (cs : List Container) → list_any (comes_up (Some job)) (filter (λ c. is_same_job job c.job) cs)
      ≡ list_any (comes_up (Some job)) cs
  any_of [] = refl
  any_of (c ∷ cs) =
      elim (of_job c) as (λ t. of_job c ≡ t → list_any (comes_up (Some job))
      (cond t (c ∷ filter (λ d. is_same_job job d.job) cs) (filter (λ d. is_same_job job d.job) cs))
      ≡ (comes_up (Some job) c || list_any (comes_up (Some job)) cs)) [
        | true ↦ λ is. ap (λ b. comes_up (Some job) c || b) (any_of cs)
        | false ↦ λ is. any_of cs ∙ ap (λ b. b || list_any (comes_up (Some job)) cs) (sym (others c is))
      ] refl

-- the calls of an act are those for the containers of the job that it names
pub asked_calls : (a : CellAct) (now : Moment) (cell : List ℕ) (draining : Bool) (cs : List Container)
    → filter_map (each_todo a now cell draining) (those_of (named_in a) cs)
    ≡ filter_map (each_todo a now cell draining) cs
asked_calls (act.Join zone tag totals ttl) now cell draining cs = refl
asked_calls (act.Renew ttl) now cell draining cs = refl
asked_calls (act.Claim job memory disk) now cell draining cs = refl
asked_calls (act.Run key memory disk) now cell draining cs = refl
asked_calls (act.Up None) now cell draining cs = refl
asked_calls (act.Up (Some job)) now cell draining cs = calls_of job now cell draining cs
asked_calls (act.Crash key) now cell draining cs = refl
asked_calls (act.Finish name failed) now cell draining cs = refl
asked_calls act.Settle now cell draining cs = refl
asked_calls act.Die now cell draining cs = refl

-- it is refused as they tell
pub asked_refusal : (a : CellAct) (cs : List Container) → refused_each a (those_of (named_in a) cs) ≡ refused_each a cs
asked_refusal (act.Join zone tag totals ttl) cs = refl
asked_refusal (act.Renew ttl) cs = refl
asked_refusal (act.Claim job memory disk) cs = refl
asked_refusal (act.Run key memory disk) cs = refl
asked_refusal (act.Up None) cs = refl
asked_refusal (act.Up (Some job)) cs = ap not (any_of job cs)
asked_refusal (act.Crash key) cs = refl
asked_refusal (act.Finish name failed) cs = refl
asked_refusal act.Settle cs = refl
asked_refusal act.Die cs = refl

-- without containers a job has none
pub those_of_none : (named : Option JobName) → [] ≡ those_of named []
those_of_none None = refl
those_of_none (Some job) = refl

-- the calls of an act that is not refused, by the containers that it asks
module _ (now : Moment) (rep : CellRep) (asked : List Container) where
  planned_in : (a : CellAct) (o : Option Joined) → asked
      ≡ those_of (named_in a) (option_map_or (λ (j : Joined). j.store.containers) o []) → None ≡ each_refusal a o
      → ((j : Joined) → o ≡ Some j → plan_joined a now rep.cell o ≡ each_plan a now rep.cell j)
      → or_idle (filter_map (each_todo a now rep.cell (option_map_or (λ (j : Joined). j.draining) o false)) asked)
      ≡ plan_joined a now rep.cell o
  planned_in a None is none same = absurd (cc)
  planned_in a (Some j) is none same =
      ap (λ cs. or_idle (filter_map (each_todo a now rep.cell j.draining) cs)) is
      ∙ ap or_idle (asked_calls a now rep.cell j.draining j.store.containers)
      ∙ elim (refused_each a j.store.containers) as (λ t. None ≡ cond t (Some (Store Unknown)) None
      → or_idle (filter_map (each_todo a now rep.cell j.draining) j.store.containers)
      ≡ cond t (Local (Store Unknown) ∷ []) (or_idle (filter_map
      (each_todo a now rep.cell j.draining) j.store.containers))) [
        | true ↦ λ e. absurd (cc)
        | false ↦ λ e. refl
      ] none
      ∙ sym (same j refl)

  pub planned : (a : CellAct) → IsOfEach a → asked ≡ those_of (named_in a) (containers_of rep)
      → None ≡ each_refusal a rep.joined
      → or_idle (filter_map (each_todo a now rep.cell (is_draining rep)) asked) ≡ plan a now rep
  planned (act.Up job) each is none = planned_in (act.Up job) rep.joined is none
      (λ j e. ap (plan_joined (act.Up job) now rep.cell) e)
  planned act.Settle each is none = planned_in act.Settle rep.joined is none
      (λ j e. ap (plan_joined act.Settle now rep.cell) e)
  planned (act.Join zone tag totals ttl) each is none = absurd each
  planned (act.Renew ttl) each is none = absurd each
  planned (act.Claim job memory disk) each is none = absurd each
  planned (act.Run key memory disk) each is none = absurd each
  planned (act.Crash key) each is none = absurd each
  planned (act.Finish name failed) each is none = absurd each
  planned act.Die each is none = absurd each

-- an act that is refused does nothing but say so
module _ (now : Moment) (rep : CellRep) (why : RepRefusal) where
  refused_in : (a : CellAct) (o : Option Joined) → Some why ≡ each_refusal a o
      → ((j : Joined) → o ≡ Some j → plan_joined a now rep.cell o ≡ each_plan a now rep.cell j)
      → Local why ∷ [] ≡ plan_joined a now rep.cell o
  refused_in a None e same = ap (λ (x : Option RepRefusal). Local (unwrap_or x why) ∷ []) e
  refused_in a (Some j) e same =
      elim (refused_each a j.store.containers) as (λ t. Some why ≡ cond t (Some (Store Unknown)) None
      → Local why ∷ [] ≡ cond t (Local (Store Unknown) ∷ [])
      (or_idle (filter_map (each_todo a now rep.cell j.draining) j.store.containers))) [
        | true ↦ λ k. ap (λ (x : Option RepRefusal). Local (unwrap_or x why) ∷ []) k
        | false ↦ λ k. absurd (cc)
      ] e
      ∙ sym (same j refl)

  pub planned_refused : (a : CellAct) → IsOfEach a → Some why ≡ each_refusal a rep.joined
      → Local why ∷ [] ≡ plan a now rep
  planned_refused (act.Up job) each e = refused_in (act.Up job) rep.joined e
      (λ j is. ap (plan_joined (act.Up job) now rep.cell) is)
  planned_refused act.Settle each e = refused_in act.Settle rep.joined e
      (λ j is. ap (plan_joined act.Settle now rep.cell) is)
  planned_refused (act.Join zone tag totals ttl) each e = absurd each
  planned_refused (act.Renew ttl) each e = absurd each
  planned_refused (act.Claim job memory disk) each e = absurd each
  planned_refused (act.Run key memory disk) each e = absurd each
  planned_refused (act.Crash key) each e = absurd each
  planned_refused (act.Finish name failed) each e = absurd each
  planned_refused act.Die each e = absurd each
