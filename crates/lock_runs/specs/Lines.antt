-- Lines of lock commands on a locket: how far they ran, and what was printed of them.
use Rattle.std.specs.Prelude.{◌≡◌, ◌⊎◌, ℕ, ◌≤◌, true, false, List, [], ◌++◌, Option, Some, None, option_to_list, Result, Ok, Err}
use Rattle.disk_trait.specs.Past.{Past}
use Rattle.disk_trait.specs.Runs.{Extends}
use Rattle.disk_trait.specs.Steps.{Goes}
use Rattle.locket.specs.View.{LocketView}
use Rattle.locket.specs.declared.reply.LockFault.{LockFault}
use Rattle.locket.specs.declared.reply.LockFault.TheVariants.{Disk, OutOfMemory}
use Rattle.lock_lines.specs.declared.lock_line.LockLine.{LockLine}
use Rattle.program_ends.specs.Ports.{PrintsTo}
use Rattle.program_ends.specs.declared.ending.Ending.{Ending}
use Rattle.program_ends.specs.declared.ending.Ending.TheVariants as ending
use Rattle.lock_runs.specs.Courses.{LockCourse, course_behind, doubt_at, failed_line}

-- how far a locket has come, with this text of the answers
abbrev pub course_at : {D : Type 0} → LocketView D → List ℕ → LockCourse
course_at v text = record { log = v.log; text = text }

-- why no line behind these ran, by how they ended; where memory ran out nothing is said of the text
abbrev pub EndsBy : Result (Unit {0}) LockFault → Option LockLine → List LockLine → Type 0 → Type 0
EndsBy (Ok done) None rest IsText = (rest ≡ []) × IsText
EndsBy (Ok done) (Some line) rest IsText = ⊥
EndsBy (Err Disk) None rest IsText = ⊥
EndsBy (Err Disk) (Some line) rest IsText = IsText
EndsBy (Err OutOfMemory) failed rest IsText = Unit {0}

-- the first of these lines ran on a locket, up to one at which the disk failed, if there is one: the log gained what
-- they came to, and the text their answers
pub record RunsOn {D : Type 0} (told : D → Option Past) (fault_count : D → ℕ) (lines : List LockLine)
    (end : Result (Unit {0}) LockFault) (text text' : List ℕ) (v w : LocketView D) : Type 0 where
  pub ran : List LockLine
  pub failed : Option LockLine
  pub rest : List LockLine
  pub split : lines ≡ ran ++ (option_to_list failed ++ rest)
  pub base : w.base ≡ v.base
  pub since : w.since ≡ v.since
  pub faults : w.faults ≡ v.faults
  pub log : w.log ≡ (course_behind v.base (course_at v text) ran).log ++ doubt_at failed
  pub ends : EndsBy end failed rest (text' ≡ (course_behind v.base (course_at v text) ran).text ++ failed_line failed)
  pub extends : Goes (told v.disk) (told w.disk) Extends
  pub later : fault_count v.disk ≤ fault_count w.disk

-- a text was printed whole by what is to end so, or a front of it, or nothing where memory ran out
abbrev pub IsTold : Ending → Ending → List ℕ → Option (List ℕ) → Option (List ℕ) → ℕ → ℕ → Type 0
IsTold how told text held held' faults faults' =
    ((told ≡ how) × PrintsTo true text held held' faults faults')
    ⊎ (((told ≡ ending.Unwritten) × PrintsTo false text held held' faults faults')
    ⊎ ((told ≡ ending.OutOfMemory) × (held' ≡ held) × (faults' ≡ faults)))

-- the same, of lines that ended so
abbrev pub IsFinished : Result (Unit {0}) LockFault → Ending → List ℕ →
    Option (List ℕ) → Option (List ℕ) → ℕ → ℕ → Type 0
IsFinished (Ok done) told text held held' faults faults' = IsTold ending.Done told text held held' faults faults'
IsFinished (Err Disk) told text held held' faults faults' = IsTold ending.Doubt told text held held' faults faults'
IsFinished (Err OutOfMemory) told text held held' faults faults' =
    (told ≡ ending.OutOfMemory) × (held' ≡ held) × (faults' ≡ faults)
