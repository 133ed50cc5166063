-- What the calls of a store do to it.
use Rattle.std.specs.Prelude.{◌≡◌, ℕ, ◌+◌, ◌==◌, Bool, ◌&&◌, not, true, false, nat_lt, [], ◌∷◌, ◌++◌, map, filter, Option, Some, None, Result, Ok, Err, IsOk, if◌then◌else◌}
use Rattle.cell_records.specs.declared.container.Container.{Container}
use Rattle.cell_records.specs.declared.container_state.ContainerState.{ContainerState}
use Rattle.cell_records.specs.declared.container_state.ContainerState.TheVariants.{Reserved, Running, Completed}
use Rattle.cell_records.specs.declared.job_name.JobName.{JobName}
use Rattle.diego_names.specs.declared.instance.Instance.{Instance}
use Rattle.lrp_records.specs.States.{is_same_instance}
use Rattle.container_store.specs.Jobs.{is_job_in}
use Rattle.container_store.specs.Store.{StoreView, free_of, find_container}
use Rattle.container_store.specs.declared.refusal.ReserveFault.{ReserveFault}
use Rattle.container_store.specs.declared.refusal.ReserveFault.TheVariants.{Refused, OutOfMemory}
use Rattle.container_store.specs.declared.refusal.StoreRefusal.{StoreRefusal}
use Rattle.container_store.specs.declared.refusal.StoreRefusal.TheVariants.{NoMemoryLeft, NoDiskLeft, NoSlot, Unknown, WrongState}

-- the container that would be reserved next: its number was never given
abbrev pub next_of : StoreView → Instance
next_of s = record { epoch = s.epoch; number = s.last + 1 }

-- that container, with this in MB
abbrev pub next_container : StoreView → JobName → ℕ → ℕ → Container
next_container s job memory disk =
    record { instance = next_of s; job = job; memory = memory; disk = disk; state = Reserved }

-- the store with it behind the others
abbrev pub reserved : StoreView → JobName → ℕ → ℕ → StoreView
reserved s job memory disk =
    record s { containers = s.containers ++ next_container s job memory disk ∷ []; last = s.last + 1 }

-- a reservation, or what there is too little of, looked for in this order
abbrev pub reserving : StoreView → JobName → ℕ → ℕ → Result StoreView StoreRefusal
reserving s job memory disk =
    if nat_lt (free_of s).memory memory then Err NoMemoryLeft else
    (if nat_lt (free_of s).disk disk then Err NoDiskLeft else
    (if (free_of s).containers == 0 then Err NoSlot else Ok (reserved s job memory disk)))

-- a reservation that is due is missing for want of memory alone, and a refusal is the one that is due
abbrev pub IsReserveFault : Result StoreView StoreRefusal → ReserveFault → Type 0
IsReserveFault due (Refused why) = due ≡ Err why
IsReserveFault due OutOfMemory = IsOk due

-- a container that has come to that state
abbrev pub in_state : Container → ContainerState → Container
in_state c state = record c { state = state }

-- one container comes to that state
abbrev pub with_state : StoreView → Instance → ContainerState → StoreView
with_state s i state =
    record s { containers = map (λ c. if is_same_instance i c.instance then in_state c state else c) s.containers }

-- one container is gone
abbrev pub without_container : StoreView → Instance → StoreView
without_container s i =
    record s { containers = filter (λ c. not (is_same_instance i c.instance)) s.containers }

-- what is asked of a container that has to be there
abbrev pub if_held : Option Container → (Container → Result StoreView StoreRefusal) → Result StoreView StoreRefusal
if_held None ask = Err Unknown
if_held (Some c) ask = ask c

-- the container has room, and does not run yet
abbrev pub is_reserved : ContainerState → Bool
is_reserved Reserved = true
is_reserved Running = false
is_reserved (Completed failed) = false

-- the container has not ended
abbrev pub is_uncompleted : ContainerState → Bool
is_uncompleted Reserved = true
is_uncompleted Running = true
is_uncompleted (Completed failed) = false

-- a RESERVED container runs
abbrev pub running : StoreView → Instance → Result StoreView StoreRefusal
running s i =
    if_held (find_container i s.containers)
    (λ c. if is_reserved c.state then Ok (with_state s i Running) else Err WrongState)

-- a RESERVED container of the job that is named, or of any where none is named, runs
abbrev pub run_if_named : Option JobName → Container → Container
run_if_named job c = if is_reserved c.state && is_job_in job c.job then in_state c Running else c

-- each such container runs
abbrev pub running_each : StoreView → Option JobName → StoreView
running_each s job = record s { containers = map (run_if_named job) s.containers }

-- a container that has not ended ends
abbrev pub completing : StoreView → Instance → Bool → Result StoreView StoreRefusal
completing s i failed =
    if_held (find_container i s.containers)
    (λ c. if is_uncompleted c.state then Ok (with_state s i (Completed failed)) else Err WrongState)

-- a container goes, whatever its state
abbrev pub removing : StoreView → Instance → Result StoreView StoreRefusal
removing s i = if_held (find_container i s.containers) (λ c. Ok (without_container s i))
