-- A locket as its callers see it, and what it rests on.
use Rattle.std.specs.Prelude.{◌≡◌, ℕ, Bool, false, None, List, [], ◌∷◌, Ok}
use Rattle.payload_log.specs.View.{LogView}
use Rattle.payload_log.specs.declared.entry.Entry.TheVariants.{Done, Doubt}
use Rattle.locket.specs.Bytes.{FitsLock}
use Rattle.locket.specs.Lives.{LockLog, state_of, lived, IsLawful}
use Rattle.locket.specs.Opening.{locks_of, commands_in}
use Rattle.locket.specs.declared.command.LockCommand.{LockCommand}
use Rattle.locket.specs.declared.state.LockState.{LockState}

-- its disk, its life when it was opened, what it did since then with the disk's clock at the end of the call of each,
-- the clock and the count of faults at the end of its load, and whether a gate has to be mended
pub record LocketView (D : Type 0) : Type 0 where
  pub disk : D
  pub base : List LockCommand
  pub log : LockLog
  pub marks : List ℕ
  pub since : ℕ
  pub faults : ℕ
  pub waits : Bool

-- the life of a locket so far
abbrev pub life_of : {D : Type 0} → LocketView D → List LockCommand
life_of v = lived v.base v.log

-- it was just loaded from this disk: it has done nothing since, nothing waits, its clock and its count of faults are
-- those of its disk, and the load met no fault
pub record IsLocketFrom {D : Type 0} (moment fault_count : D → ℕ) (disk : D) (v : LocketView D) : Type 0 where
  pub log : v.log ≡ []
  pub marks : v.marks ≡ []
  pub calm : v.waits ≡ false
  pub since : v.since ≡ moment v.disk
  pub faults : v.faults ≡ fault_count v.disk
  pub stood : fault_count v.disk ≡ fault_count disk

-- each command of a log has a spelling
abbrev pub AreSpelled : LockLog → Type 0
AreSpelled [] = Unit {0}
AreSpelled (Done c ∷ log) = FitsLock c × AreSpelled log
AreSpelled (Doubt c ∷ log) = FitsLock c × AreSpelled log

-- so stands each locket: its log began with a lock journal, is lawful and leads to its state, and each of its commands
-- has a spelling
pub record IsSoundLocket {D : Type 0} (v : LogView D LockCommand) (state : LockState) : Type 0 where
  pub opened : locks_of v.start.version v.start.area v.start.head v.start.payloads None
      ≡ Ok (state_of (commands_in v.start.payloads))
  pub lawful : IsLawful (state_of (commands_in v.start.payloads)) v.log
  pub fits : AreSpelled v.log
  pub state_is : state ≡ state_of (lived (commands_in v.start.payloads) v.log)
