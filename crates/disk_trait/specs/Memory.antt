-- A disk in memory, and which of its calls fail.
use Rattle.std.specs.Prelude.{◌≡◌, ℕ, ◌+◌, ◌-◌, ◌^◌, Bool, true, ◌&&◌, ◌||◌, not, ◌==◌, List}
use Rattle.std.specs.List.{list_any}
use Rattle.byte_ports.specs.Cause.{HasCause}
use Rattle.disk_trait.specs.Past.{Past, content, IsSettled}
use Rattle.disk_trait.specs.MemoryAreas.{past_of}
use Rattle.disk_trait.specs.declared.area.Area.TheVariants.{A, B}
use Rattle.disk_trait.specs.declared.memory_disk.MemoryDisk.{MemoryDisk}

-- what the disk tells
abbrev pub memory_past : MemoryDisk → Past
memory_past disk = past_of disk.areas disk.meter.clock

-- how many device calls were made of it
abbrev pub calls_of : MemoryDisk → ℕ
calls_of disk = disk.meter.clock

-- how many of them failed
abbrev pub faults_of : MemoryDisk → ℕ
faults_of disk = disk.meter.faults

-- how many failed for want of memory alone
abbrev pub starved_of : MemoryDisk → ℕ
starved_of disk = disk.starved

-- the numbers of the calls that fail
abbrev pub failing_of : MemoryDisk → List ℕ
failing_of disk = disk.failing.items

-- the next call is a listed one, or one too many for the clock
abbrev pub fails_next : MemoryDisk → Bool
fails_next disk = (calls_of disk == 2 ^ 64 - 1) || list_any (λ n. n == calls_of disk + 1) (failing_of disk)

-- such a call fails, and any other only where there was no memory for it
pub record FailsWhereListed (failed : Bool) (old new : MemoryDisk) : Type 0 where
  pub listed : fails_next old ≡ true → failed ≡ true
  pub unlisted : HasCause (failed && not (fails_next old)) (starved_of old) (starved_of new)
  pub failing : failing_of new ≡ failing_of old

-- a new disk: these bytes, nothing pending, and no call made
pub record Starts (a b failing : List ℕ) (disk : MemoryDisk) : Type 0 where
  pub in_a : content (memory_past disk) A ≡ a
  pub in_b : content (memory_past disk) B ≡ b
  pub settled : IsSettled (memory_past disk)
  pub calls : calls_of disk ≡ 0
  pub faults : faults_of disk ≡ 0
  pub starved : starved_of disk ≡ 0
  pub failing_is : failing_of disk ≡ failing
