-- What an act does to a cell's containers before it calls.
pub use Rattle.container_store.specs.Lookups.{first_of, uncompleted_of}
use Rattle.std.specs.Prelude.{ℕ, Bool, Option, Some, None, Result, Ok, Err, IsOk, ◌≡◌}
use Rattle.std.specs.Result.{result_unwrap_or}
use Rattle.cell_records.specs.declared.container.Container.{Container}
use Rattle.cell_records.specs.declared.container_state.ContainerState.{ContainerState}
use Rattle.cell_records.specs.declared.container_state.ContainerState.TheVariants.{Reserved, Running, Completed}
use Rattle.cell_records.specs.declared.job_name.JobName.{JobName}
use Rattle.container_store.specs.Changes.{next_container, reserving, running, completing}
use Rattle.container_store.specs.Store.{StoreView}
use Rattle.container_store.specs.declared.refusal.StoreRefusal.{StoreRefusal}
use Rattle.container_store.specs.declared.refusal.ReserveFault.{ReserveFault}
use Rattle.container_store.specs.declared.refusal.ReserveFault.TheVariants.{Refused, OutOfMemory}

-- a store, and a container of it
abbrev pub Claimed : Type 0
Claimed = StoreView × Container

-- the store with that container, where it has room for it
abbrev pub claimed_next : Container → Result StoreView StoreRefusal → Result Claimed StoreRefusal
claimed_next c (Ok store) = Ok (store, c)
claimed_next c (Err why) = Err why

-- the container that is there, and else one more
abbrev pub claimed_or_next : StoreView → JobName → ℕ → ℕ → Option Container → Result Claimed StoreRefusal
claimed_or_next s job memory disk (Some c) = Ok (s, c)
claimed_or_next s job memory disk None = claimed_next (next_container s job memory disk) (reserving s job memory disk)

-- a job's container that has not ended, or one more, whose amounts are in MB
abbrev pub claiming : StoreView → JobName → ℕ → ℕ → Result Claimed StoreRefusal
claiming s job memory disk = claimed_or_next s job memory disk (uncompleted_of job s.containers)

-- the store after a claim, which a refusal leaves
abbrev pub store_claimed : StoreView → Result Claimed StoreRefusal → StoreView
store_claimed s (Ok p) = p.0
store_claimed s (Err why) = s

-- the store after a claim whose container runs, which one that runs goes on to do
abbrev pub store_run : StoreView → Result Claimed StoreRefusal → StoreView
store_run s (Ok p) = result_unwrap_or (running p.0 p.1.instance) p.0
store_run s (Err why) = s

-- the store where that container has ended; one that had ended stays as it was
abbrev pub store_ended : StoreView → Bool → Option Container → StoreView
store_ended s failed None = s
store_ended s failed (Some c) = result_unwrap_or (completing s c.instance failed) s

-- how a container ended: as it did, where it had ended already
abbrev pub flag_of : ContainerState → Bool → Bool
flag_of Reserved failed = failed
flag_of Running failed = failed
flag_of (Completed was) failed = was

-- a claim that is due is missing for want of memory alone, and a refusal is the one that is due
abbrev pub IsClaimFault : Result Claimed StoreRefusal → ReserveFault → Type 0
IsClaimFault due (Refused why) = due ≡ Err why
IsClaimFault due OutOfMemory = IsOk due
