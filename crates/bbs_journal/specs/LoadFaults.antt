-- The faults of a load.
use Rattle.std.specs.Prelude.{◌≡◌, Bool, true, false, Result, Ok, Err}
use Rattle.bbs_journal.specs.declared.load_fault.LoadFault.{LoadFault}
use Rattle.bbs_journal.specs.declared.load_fault.LoadFault.TheVariants.{Disk, NotABoard, Damaged, OutOfMemory}

-- the disk failed
abbrev pub is_load_disk_fault : LoadFault → Bool
is_load_disk_fault Disk = true
is_load_disk_fault (NotABoard area) = false
is_load_disk_fault (Damaged area at) = false
is_load_disk_fault OutOfMemory = false

-- there is such a fault
abbrev pub failed : {X E : Type 0} → (E → Bool) → Result X E → Bool
failed is_fault (Ok x) = false
failed is_fault (Err e) = is_fault e

-- a fault that no content explains
abbrev pub IsFree : LoadFault → Type 0
IsFree Disk = Unit {0}
IsFree (NotABoard area) = ⊥
IsFree (Damaged area at) = ⊥
IsFree OutOfMemory = Unit {0}

-- such a fault, where it isn't free, is what reading comes to
abbrev pub Fails : {X : Type 0} → LoadFault → Result X LoadFault → Type 0
Fails Disk read = Unit {0}
Fails (NotABoard area) read = read ≡ Err (NotABoard area)
Fails (Damaged area at) read = read ≡ Err (Damaged area at)
Fails OutOfMemory read = Unit {0}
