-- What a cell does for an act: to its containers at once, and then its calls.
use Rattle.std.specs.Prelude.{ℕ, ◌&&◌, Bool, true, false, not, List, [], ◌∷◌, Option, Some, None, Result, Ok, Err, if◌then◌else◌, is_some}
use Rattle.std.specs.List.{filter_map, list_any}
use Rattle.bbs_model.specs.declared.command.Op.{Op}
use Rattle.bbs_model.specs.declared.command.Op.TheVariants as op
use Rattle.cell_records.specs.declared.container.Container.{Container}
use Rattle.cell_records.specs.declared.container_state.ContainerState.{ContainerState}
use Rattle.cell_records.specs.declared.container_state.ContainerState.TheVariants.{Reserved, Running, Completed}
use Rattle.cell_records.specs.declared.job.Job.{Job}
use Rattle.cell_records.specs.declared.job_name.JobName.{JobName}
use Rattle.cell_records.specs.declared.job_name.JobName.TheVariants.{Lrp, Task}
use Rattle.container_store.specs.Changes.{is_reserved, next_container, reserving, running_each}
use Rattle.container_store.specs.Jobs.{is_job_in}
use Rattle.container_store.specs.Store.{StoreView}
use Rattle.container_store.specs.declared.refusal.StoreRefusal.{StoreRefusal}
use Rattle.container_store.specs.declared.refusal.StoreRefusal.TheVariants.{Unknown}
use Rattle.crash_backoff.specs.declared.moment.Moment.{Moment}
use Rattle.diego_names.specs.declared.instance.Instance.{Instance}
use Rattle.cell_rep.specs.Claims.{Claimed, claimed_next, first_of, claiming, store_claimed, store_run, store_ended, flag_of}
use Rattle.cell_rep.specs.Reps.{with_store}
use Rattle.cell_rep.specs.declared.call_end.RepRefusal.{RepRefusal}
use Rattle.cell_rep.specs.declared.call_end.RepRefusal.TheVariants.{Down, Store}
use Rattle.cell_rep.specs.declared.cell_act.CellAct.{CellAct}
use Rattle.cell_rep.specs.declared.cell_act.CellAct.TheVariants as act
use Rattle.cell_rep.specs.declared.joined.Joined.{Joined}
use Rattle.cell_rep.specs.declared.rep.CellRep.{CellRep}
use Rattle.cell_rep.specs.declared.todo.Todo.{Todo}
use Rattle.cell_rep.specs.declared.todo.Todo.TheVariants.{Call, Idle, Local}

-- the rep is without containers and without an epoch
abbrev pub not_joined : CellRep → CellRep
not_joined rep = record rep { joined = None }

-- the store after what an act does at once
abbrev pub begun_in : CellAct → StoreView → StoreView
begun_in (act.Join zone tag totals ttl) s = s
begun_in (act.Renew ttl) s = s
begun_in (act.Claim job memory disk) s = store_claimed s (claiming s job memory disk)
begun_in (act.Run key memory disk) s = store_run s (claiming s (Lrp key) memory disk)
begun_in (act.Up job) s = running_each s job
begun_in (act.Crash key) s = store_ended s true (first_of (Lrp key) s.containers)
begun_in (act.Finish name failed) s = store_ended s failed (first_of (Task name) s.containers)
begun_in act.Settle s = s
begun_in act.Die s = s

-- the rep after what an act does to the store of one that has joined
abbrev pub begun_joined : CellAct → CellRep → Option Joined → CellRep
begun_joined a rep None = rep
begun_joined a rep (Some j) = with_store rep j (begun_in a j.store)

-- the rep after what an act does at once
abbrev pub begun : CellAct → CellRep → CellRep
begun (act.Join zone tag totals ttl) rep = not_joined rep
begun act.Die rep = not_joined rep
begun a rep = begun_joined a rep rep.joined

-- a call at that moment
abbrev pub call : Moment → Op → Todo
call now o = Call (record { now = now; op = o })

-- a job's container is told to the board
abbrev pub claim_op : List ℕ → JobName → Instance → Op
claim_op cell (Lrp key) i = op.Claim key i cell
claim_op cell (Task name) i = op.StartTask name i cell

-- a claim is told to the board, where the store has room for it
abbrev pub claim_todo : Moment → (Container → Op) → Result Claimed StoreRefusal → Todo
claim_todo now told (Ok p) = call now (told p.1)
claim_todo now told (Err why) = Local (Store why)

-- a container is told to the board, where it is there
abbrev pub found_todo : Moment → (Container → Op) → Option Container → Todo
found_todo now told None = Local (Store Unknown)
found_todo now told (Some c) = call now (told c)

-- nothing to call is one idle call
abbrev pub or_idle : List Todo → List Todo
or_idle [] = Idle ∷ []
or_idle (t ∷ ts) = t ∷ ts

-- a container that comes up is told to the board if it is an instance's
abbrev pub start_todo : Moment → List ℕ → JobName → Instance → Option Todo
start_todo now cell (Lrp key) i = Some (call now (op.Start key i cell))
start_todo now cell (Task name) i = None

-- the container comes up: it is RESERVED, and of the job if one is named
abbrev pub comes_up : Option JobName → Container → Bool
comes_up job c = is_reserved c.state && is_job_in job c.job

-- a container is told to the board again; one that is being emptied gives back what does not run
abbrev pub settle_op : List ℕ → Bool → JobName → ContainerState → Instance → Op
settle_op cell draining (Lrp key) Reserved i = if draining then op.Unclaim key i else op.Claim key i cell
settle_op cell draining (Lrp key) Running i = if draining then op.Evacuate key i else op.Start key i cell
settle_op cell draining (Lrp key) (Completed failed) i = op.Crash key i
settle_op cell draining (Task name) Reserved i = op.StartTask name i cell
settle_op cell draining (Task name) Running i = op.StartTask name i cell
settle_op cell draining (Task name) (Completed failed) i = op.CompleteTask name i failed

-- a container's call of a settle
abbrev pub settle_todo : Moment → List ℕ → Bool → Container → Todo
settle_todo now cell draining c = call now (settle_op cell draining c.job c.state c.instance)

-- the job that an act names whose calls are for each of some containers
abbrev pub named_in : CellAct → Option JobName
named_in (act.Up job) = job
named_in a = None

-- what a container has to be told of in an act that has a call for each of some
abbrev pub each_todo : CellAct → Moment → List ℕ → Bool → Container → Option Todo
each_todo (act.Up job) now cell draining c =
    if comes_up job c then start_todo now cell c.job c.instance else None
each_todo act.Settle now cell draining c = Some (settle_todo now cell draining c)
each_todo a now cell draining c = None

-- such an act is refused where it names a job of which no container comes up
abbrev pub refused_each : CellAct → List Container → Bool
refused_each (act.Up job) cs = is_some job && not (list_any (comes_up job) cs)
refused_each a cs = false

-- why such an act calls nothing, if so
abbrev pub each_refusal : CellAct → Option Joined → Option RepRefusal
each_refusal a None = Some Down
each_refusal a (Some j) = if refused_each a j.store.containers then Some (Store Unknown) else None

-- the calls of such an act, container by container, unless it is refused
abbrev pub each_plan : CellAct → Moment → List ℕ → Joined → List Todo
each_plan a now cell j =
    if refused_each a j.store.containers then Local (Store Unknown) ∷ []
    else or_idle (filter_map (each_todo a now cell j.draining) j.store.containers)

-- what is to be done for an act by a rep that has joined
abbrev pub plan_in : CellAct → Moment → List ℕ → Joined → List Todo
plan_in (act.Join zone tag totals ttl) now cell j = Idle ∷ []
plan_in (act.Renew ttl) now cell j = call now (op.Renew cell j.store.epoch ttl) ∷ []
plan_in (act.Claim job memory disk) now cell j =
    claim_todo now (λ c. claim_op cell job c.instance) (claiming j.store job memory disk) ∷ []
plan_in (act.Run key memory disk) now cell j =
    claim_todo now (λ c. op.Start key c.instance cell) (claiming j.store (Lrp key) memory disk) ∷ []
plan_in (act.Up job) now cell j = each_plan (act.Up job) now cell j
plan_in (act.Crash key) now cell j =
    found_todo now (λ c. op.Crash key c.instance) (first_of (Lrp key) j.store.containers) ∷ []
plan_in (act.Finish name failed) now cell j =
    found_todo now (λ c. op.CompleteTask name c.instance (flag_of c.state failed)) (first_of (Task name) j.store.containers) ∷ []
plan_in act.Settle now cell j = each_plan act.Settle now cell j
plan_in act.Die now cell j = Idle ∷ []

-- what is to be done by a rep that has to have joined
abbrev pub plan_joined : CellAct → Moment → List ℕ → Option Joined → List Todo
plan_joined a now cell None = Local Down ∷ []
plan_joined a now cell (Some j) = plan_in a now cell j

-- what is to be done for an act, in order
abbrev pub plan : CellAct → Moment → CellRep → List Todo
plan (act.Join zone tag totals ttl) now rep = call now (op.Join rep.cell zone tag totals ttl) ∷ []
plan act.Die now rep = Idle ∷ []
plan a now rep = plan_joined a now rep.cell rep.joined

-- a container more for a job that a round starts
abbrev pub job_claim : Job → StoreView → Result Claimed StoreRefusal
job_claim job s =
    claimed_next (next_container s job.job job.memory job.disk) (reserving s job.job job.memory job.disk)

-- the rep with that container, if it has room for it
abbrev pub job_begun : Job → CellRep → Option Joined → CellRep
job_begun job rep None = rep
job_begun job rep (Some j) = with_store rep j (store_claimed j.store (job_claim job j.store))

-- and it is told to the board
abbrev pub job_todo : Job → Moment → List ℕ → Option Joined → Todo
job_todo job now cell None = Local Down
job_todo job now cell (Some j) =
    claim_todo now (λ c. claim_op cell job.job c.instance) (job_claim job j.store)

-- a drain is to be told to the board
abbrev pub drain_todo : Moment → List ℕ → Option Joined → Todo
drain_todo now cell None = Local Down
drain_todo now cell (Some j) = call now (op.Drain cell j.store.epoch)
