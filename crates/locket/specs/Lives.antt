-- The life of a locket: the commands that changed its state, one after another.
use Rattle.std.specs.Prelude.{◌≡◌, ◌≤◌, Bool, true, false, None, List, [], ◌∷◌, ◌++◌}
use Rattle.payload_log.specs.Entries.{done_in}
use Rattle.payload_log.specs.declared.entry.Entry.{Entry}
use Rattle.payload_log.specs.declared.entry.Entry.TheVariants.{Done, Doubt}
use Rattle.locket.specs.Steps.{lock_step, most_changes}
use Rattle.locket.specs.declared.command.LockCommand.{LockCommand}
use Rattle.locket.specs.declared.state.LockState.{LockState}
use Rattle.locket.specs.declared.verdict.LockVerdict.{LockVerdict}
use Rattle.locket.specs.declared.verdict.LockVerdict.TheVariants.{Changes, Stays}

-- what a locket did: its commands, done or in doubt
abbrev pub LockLog : Type 0
LockLog = List (Entry LockCommand)

-- the state before the first command
abbrev pub unused : LockState
unused = record { last = 0; seen = record { 0 = 0 }; held = None; count = 0 }

-- no more fences were given than changes were made, and no more of these than a locket makes
pub record IsCounted (s : LockState) : Type 0 where
  pub fences : s.last ≤ s.count
  pub changes : s.count ≤ most_changes

-- the state changes
abbrev pub is_change : LockVerdict → Bool
is_change (Changes next answer) = true
is_change (Stays answer) = false

-- the state that a verdict leaves
abbrev pub left_by : LockState → LockVerdict → LockState
left_by s (Changes next answer) = next
left_by s (Stays answer) = s

-- the state after a command
abbrev pub state_after : LockState → LockCommand → LockState
state_after s c = left_by s (lock_step s c)

-- the state after these, one after another
abbrev pub state_from : LockState → List LockCommand → LockState
state_from s [] = s
state_from s (c ∷ cs) = state_from (state_after s c) cs

-- a command changes this state
abbrev pub IsChange : LockState → LockCommand → Type 0
IsChange s c = is_change (lock_step s c) ≡ true

-- each changes the state that those before it leave
abbrev pub AreChanges : LockState → List LockCommand → Type 0
AreChanges s [] = Unit {0}
AreChanges s (c ∷ cs) = IsChange s c × AreChanges (state_after s c) cs

-- the commands are a life from its beginning on
abbrev pub IsLife : List LockCommand → Type 0
IsLife life = AreChanges unused life

-- the state that a life leaves
abbrev pub state_of : List LockCommand → LockState
state_of life = state_from unused life

-- each entry of a log, done or in doubt, changes the state that those done before it leave
abbrev pub IsLawful : LockState → LockLog → Type 0
IsLawful s [] = Unit {0}
IsLawful s (Done c ∷ log) = IsChange s c × IsLawful (state_after s c) log
IsLawful s (Doubt c ∷ log) = IsChange s c × IsLawful s log

-- a life, and what is done in a log behind it
abbrev pub lived : List LockCommand → LockLog → List LockCommand
lived base log = base ++ done_in log
