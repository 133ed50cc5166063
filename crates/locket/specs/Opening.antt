-- What a lock journal is opened as: the prepared head, and then its commands, one after another.
use Rattle.std.specs.Prelude.{◌≡◌, ◌⊎◌, ℕ, ◌+◌, ◌==◌, ◌&&◌, Bool, List, [], ◌∷◌, length, Option, Some, None, Result, Ok, Err, if◌then◌else◌}
use Rattle.std.specs.List.{list_all}
use Rattle.disk_trait.specs.Past.{Image}
use Rattle.disk_trait.specs.declared.area.Area.{Area}
use Rattle.bbs_journal.specs.Opening.{IsOpening, headed}
use Rattle.bbs_journal.specs.declared.load_fault.LoadFault.{LoadFault}
use Rattle.bbs_journal.specs.declared.load_fault.LoadFault.TheVariants.{Disk, NotABoard, Damaged, OutOfMemory}
use Rattle.locket.specs.Bytes.{lock_reading}
use Rattle.locket.specs.Lives.{state_of, unused}
use Rattle.locket.specs.Steps.{lock_step}
use Rattle.locket.specs.declared.command.LockCommand.{LockCommand}
use Rattle.locket.specs.declared.state.LockState.{LockState}
use Rattle.locket.specs.declared.verdict.LockVerdict.{LockVerdict}
use Rattle.locket.specs.declared.verdict.LockVerdict.TheVariants.{Changes, Stays}

-- how many bytes the head of a prepared area of this version has
abbrev pub prepared_size : ℕ → ℕ
prepared_size version = if version == 1 then 24 else 28

-- the head is that of a prepared area of this version, which is all zero
abbrev pub is_prepared : ℕ → List ℕ → Bool
is_prepared version head = (length head == prepared_size version) && list_all (λ b. b == 0) head

-- the state that a verdict changes to
abbrev pub next_of : LockVerdict → Option LockState
next_of (Changes next answer) = Some next
next_of (Stays answer) = None

-- the state after what was read of a payload, where that changes it
abbrev pub after_read : LockState → Option LockCommand → Option LockState
after_read s None = None
after_read s (Some c) = next_of (lock_step s c)

-- the state after a payload, where that is a command and changes it
abbrev pub after_payload : LockState → List ℕ → Option LockState
after_payload s payload = after_read s (lock_reading payload)

-- what comes of a state, if there is one, and else a defect at this place
abbrev pub or_damaged : Area → ℕ → Option LockState → (LockState → Result LockState LoadFault)
    → Result LockState LoadFault
or_damaged area at None go = Err (Damaged area at)
or_damaged area at (Some s) go = go s

-- a state that stands, unless there is a defect behind the frames
abbrev pub unless_broken : Area → Option ℕ → LockState → Result LockState LoadFault
unless_broken area None s = Ok s
unless_broken area (Some place) s = Err (Damaged area place)

-- the state after the frames of these payloads, which stand from a place on, or the defect that stands first: a frame
-- whose payload is no command or changes nothing there, at its gate, or what is broken behind them
abbrev pub followed : Area → Option ℕ → LockState → ℕ → List (List ℕ) → Result LockState LoadFault
followed area broken s at [] = unless_broken area broken s
followed area broken s at (payload ∷ payloads) =
    or_damaged area at (after_payload s payload) (λ next. followed area broken next (at + 3 + length payload) payloads)

-- the state that an area of this version comes to, or its first defect from its head on
abbrev pub locks_of : ℕ → Area → List ℕ → List (List ℕ) → Option ℕ → Result LockState LoadFault
locks_of version area head payloads broken =
    if is_prepared version head then followed area broken unused (23 + length head) payloads else Err (Damaged area 23)

-- one command more, if it is one
abbrev pub cons_read : Option LockCommand → List LockCommand → List LockCommand
cons_read None cs = cs
cons_read (Some c) cs = c ∷ cs

-- the commands among these payloads
abbrev pub commands_in : List (List ℕ) → List LockCommand
commands_in [] = []
commands_in (payload ∷ payloads) = cons_read (lock_reading payload) (commands_in payloads)

-- the image is a locket with this life
pub record IsLocket (life : List LockCommand) (c : Image) : Type 0 where
  pub area : Area
  pub version : ℕ
  pub generation : ℕ
  pub head : List ℕ
  pub payloads : List (List ℕ)
  pub end : ℕ
  pub opening : IsOpening c area version generation head payloads None end
  pub life_is : life ≡ commands_in payloads
  pub state_is : locks_of version area head payloads None ≡ Ok (state_of life)

-- the image has whole headers and a head, and this is the first defect from there on
pub record IsDamagedLocket (fault : LoadFault) (c : Image) : Type 0 where
  pub area : Area
  pub version : ℕ
  pub generation : ℕ
  pub head : List ℕ
  pub payloads : List (List ℕ)
  pub broken : Option ℕ
  pub end : ℕ
  pub opening : IsOpening c area version generation head payloads broken end
  pub fault_is : locks_of version area head payloads broken ≡ Err fault

-- the image is no locket, and this is its first defect
abbrev pub IsNotLocket : LoadFault → Image → Type 0
IsNotLocket fault c = (headed c ≡ Err fault) ⊎ IsDamagedLocket fault c

-- the fault of a load, where the content of the disk is its cause
abbrev pub RefusesLocket : LoadFault → Image → Type 0
RefusesLocket Disk c = Unit {0}
RefusesLocket (NotABoard area) c = IsNotLocket (NotABoard area) c
RefusesLocket (Damaged area at) c = IsNotLocket (Damaged area at) c
RefusesLocket OutOfMemory c = Unit {0}
