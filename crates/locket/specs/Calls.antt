-- What a call of a locket answers, and what it does to its log and to a disk.
use Rattle.std.specs.Prelude.{◌≡◌, ◌⊎◌, ℕ, Bool, true, false, List, [], ◌∷◌, ◌++◌, map, Result, Ok, Err}
use Rattle.byte_ports.specs.Cause.{HasCause}
use Rattle.disk_trait.specs.Past.{Past, Image, Images, ImagesSince}
use Rattle.disk_trait.specs.Runs.{Extends}
use Rattle.payload_log.specs.Doubts.{RoseBy}
use Rattle.payload_log.specs.Puts.{TakesPut}
use Rattle.payload_log.specs.declared.entry.Entry.TheVariants.{Done, Doubt}
use Rattle.locket.specs.Lives.{LockLog}
use Rattle.locket.specs.Opening.{IsLocket}
use Rattle.locket.specs.View.{LocketView}
use Rattle.locket.specs.declared.command.LockCommand.{LockCommand}
use Rattle.locket.specs.declared.reply.LockFault.{LockFault}
use Rattle.locket.specs.declared.reply.LockFault.TheVariants.{Disk, OutOfMemory}
use Rattle.locket.specs.declared.reply.LockReply.{LockReply}
use Rattle.locket.specs.declared.verdict.LockVerdict.{LockVerdict}
use Rattle.locket.specs.declared.verdict.LockVerdict.TheVariants.{Changes, Stays}

-- how a call may end whose step comes to this verdict
abbrev pub EndsLock : LockVerdict → Result LockReply LockFault → Type 0
EndsLock (Stays answer) end = end ≡ Ok answer
EndsLock (Changes next answer) end = (end ≡ Ok answer) ⊎ ((end ≡ Err Disk) ⊎ (end ≡ Err OutOfMemory))

-- the items that a change adds to the log, by the end of its call
abbrev pub added_by : Result LockReply LockFault → LockCommand → LockLog
added_by (Ok answer) c = Done c ∷ []
added_by (Err Disk) c = Doubt c ∷ []
added_by (Err OutOfMemory) c = []

-- the items that a call adds
abbrev pub lock_added : LockVerdict → Result LockReply LockFault → LockCommand → LockLog
lock_added (Stays answer) end c = []
lock_added (Changes next answer) end c = added_by end c

-- the log gained these items, each with this moment for a mark; without one nothing has changed, and behind one that is
-- done nothing waits
pub record GrowsLocks {D : Type 0} (items : LockLog) (moment : ℕ) (old new : LocketView D) : Type 0 where
  pub base : new.base ≡ old.base
  pub since : new.since ≡ old.since
  pub faults : new.faults ≡ old.faults
  pub log : new.log ≡ old.log ++ items
  pub marks : new.marks ≡ old.marks ++ map (λ item. moment) items
  pub idle : items ≡ [] → new ≡ old
  pub calm : (c : LockCommand) → items ≡ Done c ∷ [] → new.waits ≡ false

-- all the while a stop leaves a locket with this life, or with one command more; once that is done only the second,
-- and where it was refused and nothing waits only the first
pub record LivesOn (ok waits : Bool) (life : List LockCommand) (c : LockCommand) (p q : Past) : Type 0 where
  pub each : (image : Image) → ImagesSince q p.clock image → IsLocket life image ⊎ IsLocket (life ++ c ∷ []) image
  pub done : ok ≡ true → (image : Image) → Images q image → IsLocket (life ++ c ∷ []) image
  pub undone : ok ≡ false → waits ≡ false → (image : Image) → Images q image → IsLocket life image

-- time goes on, and where nothing waited to be mended it is known what a stop leaves
pub record PassesLock (waited ok waits : Bool) (life : List LockCommand) (c : LockCommand) (p q : Past) : Type 0 where
  pub extends : Extends p q
  pub lives : waited ≡ false → LivesOn ok waits life c p q

-- what a call does to a disk, by the items that it adds: nothing without one
abbrev pub DoesLock : LockLog → Bool → Bool → List LockCommand → Past → Past → Type 0
DoesLock [] waited waits life p q = q ≡ p
DoesLock (Done c ∷ items) waited waits life p q = PassesLock waited true waits life c p q
DoesLock (Doubt c ∷ items) waited waits life p q = PassesLock waited false waits life c p q

-- the disk failed in the call
abbrev pub is_lock_disk_fault : Result LockReply LockFault → Bool
is_lock_disk_fault (Ok answer) = false
is_lock_disk_fault (Err Disk) = true
is_lock_disk_fault (Err OutOfMemory) = false

-- the device calls of a call, by the items that it adds: none without one
abbrev pub LockTakes : LockLog → Bool → ℕ → ℕ → Type 0
LockTakes [] waited before after = after ≡ before
LockTakes (Done c ∷ items) waited before after = TakesPut true waited before after
LockTakes (Doubt c ∷ items) waited before after = TakesPut false waited before after

-- how a call used its disk: how many device calls it made, and that the count of faults has risen where it failed, and
-- stands where it didn't; and that it has risen twice where something waits and nothing did before
pub record LockUses {D : Type 0} (moment fault_count : D → ℕ) (items : LockLog) (failed : Bool)
    (old new : LocketView D) : Type 0 where
  pub calls : LockTakes items old.waits (moment old.disk) (moment new.disk)
  pub cause : HasCause failed (fault_count old.disk) (fault_count new.disk)
  pub closes : old.waits ≡ false → new.waits ≡ true → RoseBy 2 (fault_count old.disk) (fault_count new.disk)
