-- What stays of a cell through a stop and through the start of a job, and what holds of its answer.
use Rattle.std.specs.Prelude.{◌≡◌, ◌≤◌, ℕ, ◌+◌, Bool, true, false, List, [], ◌∷◌, ◌++◌, length, Option, Some, None, if◌then◌else◌}
use Rattle.std.specs.List.{All}
use Rattle.std.specs.Option.{option_map_or}
use Rattle.std.specs.Ordering.{nat_cmp}
use Rattle.bbs_model.specs.declared.command.Command.{Command}
use Rattle.bbs_model.specs.declared.reply.Reply.TheVariants as reply
use Rattle.cell_records.specs.declared.answer.Answer.{Answer}
use Rattle.cell_records.specs.declared.container.Container.{Container}
use Rattle.cell_records.specs.declared.job.Job.{Job}
use Rattle.container_store.specs.Changes.{next_container}
use Rattle.container_store.specs.Store.{IsStore, IsGiven, number_of}
use Rattle.row_tables.specs.Table.{IsRising}
use Rattle.crash_backoff.specs.declared.moment.Moment.{Moment}
use Rattle.diego_names.specs.declared.instance.Instance.{Instance}
use Rattle.cell_rep.specs.Ends.{without}
use Rattle.cell_rep.specs.Follows.{Stage, IsStarted}
use Rattle.cell_rep.specs.Reps.{answer_of, containers_of}
use Rattle.cell_rep.specs.declared.call_end.CallEnd.{CallEnd}
use Rattle.cell_rep.specs.declared.call_end.CallEnd.TheVariants.{Got, Fault, CallLost, ReplyLost, Local, Idle}
use Rattle.cell_rep.specs.declared.call_end.Called.{Called}
use Rattle.cell_rep.specs.declared.joined.Joined.{Joined}
use Rattle.cell_rep.specs.declared.rep.CellRep.{CellRep}

-- what is known of a cell that has joined, but for its containers, is the same
pub record SameCell (j k : Joined) : Type 0 where
  pub zone : k.zone ≡ j.zone
  pub tag : k.tag ≡ j.tag
  pub draining : k.draining ≡ j.draining
  pub totals : k.store.totals ≡ j.store.totals
  pub epoch : k.store.epoch ≡ j.store.epoch

-- the cell has joined before if it has joined after, as the same
abbrev pub SameJoined : Option Joined → Option Joined → Type 0
SameJoined None None = Unit {0}
SameJoined None (Some k) = ⊥
SameJoined (Some j) None = ⊥
SameJoined (Some j) (Some k) = SameCell j k

-- the store of a rep that has joined is one: so the numbers of its containers differ
abbrev pub HasStore : Option Joined → Type 0
HasStore None = Unit {0}
HasStore (Some j) = IsStore j.store

-- a stop and the start of a job leave all of a cell but its containers, whatever comes
pub record KeepCells : Type 0 where
  pub stop : (rep : CellRep) (i : Instance) → SameJoined rep.joined (without rep i).joined
  pub start : (by : ℕ) (job : Job) (now : Moment) (s s' : Stage) → IsStarted by job now s s' → SameJoined s.rep.joined s'.rep.joined

-- an answer has the cell's name, numbers that strictly rise and were given, and no more used or free than there is
pub record IsAnswerOf (rep : CellRep) (a : Answer) : Type 0 where
  pub cell : a.cell ≡ rep.cell
  pub rising : IsRising nat_cmp number_of a.containers
  pub given : All (IsGiven a.epoch a.last) a.containers
  pub slots : length a.containers ≤ a.totals.containers
  pub memory_left : a.free.memory ≤ a.totals.memory
  pub disk_left : a.free.disk ≤ a.totals.disk
  pub slots_left : a.free.containers ≤ a.totals.containers

-- so does each answer of a rep
abbrev pub RepsAnswer : Type 0
RepsAnswer = (rep : CellRep) (a : Answer) → HasStore rep.joined → answer_of rep ≡ Some a → IsAnswerOf rep a

-- the board refused the call, and that was heard
abbrev pub is_refusal : CallEnd → Bool
is_refusal (Got (reply.Ok place stamp)) = false
is_refusal (Got (reply.Same place)) = false
is_refusal (Got (reply.Refused why place)) = true
is_refusal (Fault why) = false
is_refusal CallLost = false
is_refusal (ReplyLost answer) = false
is_refusal (Local why) = false
is_refusal Idle = false

-- the containers of what is known of a cell
abbrev pub containers_in : Option Joined → List Container
containers_in joined = option_map_or (λ j. j.store.containers) joined []

-- the last number that it gave since it joined
abbrev pub last_of : Option Joined → ℕ
last_of joined = option_map_or (λ j. j.store.last) joined 0

-- the container that the cell makes room for when a job is started on it
abbrev pub container_for : Job → Option Joined → List Container
container_for job None = []
container_for job (Some j) = next_container j.store job.job job.memory job.disk ∷ []

-- the containers after the start of a job: one more where the board was called, unless its refusal was heard
abbrev pub after_start : Job → Option Joined → Option Command → CallEnd → List Container
after_start job joined None e = containers_in joined
after_start job joined (Some c) e =
    if is_refusal e then containers_in joined else containers_in joined ++ container_for job joined

-- the last number after it: one more where the board was called, also after a refusal
abbrev pub last_after : Option Joined → Option Command → ℕ
last_after joined None = last_of joined
last_after joined (Some c) = last_of joined + 1

-- what a start with that answer leaves of a cell
pub record IsLeftByStart (job : Job) (joined : Option Joined) (a : Called) (rep' : CellRep) : Type 0 where
  pub containers : containers_of rep' ≡ after_start job joined a.command a.end
  pub last : last_of rep'.joined ≡ last_after joined a.command

-- each start of a job leaves so
abbrev pub StartsStand : Type 0
StartsStand = (by : ℕ) (job : Job) (now : Moment) (s s' : Stage) (a : Called) → HasStore s.rep.joined →
    IsStarted by job now s s' → s'.out ≡ s.out ++ a ∷ [] → IsLeftByStart job s.rep.joined a s'.rep
