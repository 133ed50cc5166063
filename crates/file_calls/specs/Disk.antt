-- What a disk of files shows.
use Rattle.std.specs.Prelude.{ℕ, List, Option}
use Rattle.disk_trait.specs.Past.{Past}
use Rattle.file_calls.specs.declared.calls.Calls as calls
use Rattle.file_calls.specs.declared.file_disk.FileDisk.{FileDisk}
use Rattle.file_calls.specs.Call.{Call}
use Rattle.file_calls.specs.Told.{told_past}

module _ {C : Type 0} {g : calls.Ghosts C} where
  -- the system below
  abbrev pub system_of : FileDisk C g → C
  system_of disk = disk.calls

  -- the calls that it has made, the newest first
  abbrev pub history_of : FileDisk C g → List Call
  history_of disk = g.history disk.calls

  -- what it tells
  abbrev pub told_by : FileDisk C g → Option Past
  told_by disk = told_past g.first (g.history disk.calls)

  -- how many device calls were made of it
  abbrev pub calls_of : FileDisk C g → ℕ
  calls_of disk = disk.meter.clock

  -- how many of them failed
  abbrev pub faults_of : FileDisk C g → ℕ
  faults_of disk = disk.meter.faults
