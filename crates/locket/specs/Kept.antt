-- What a locket keeps, whatever stops come: a stop leaves a locket with its life up to a place of the log, with each
-- command that was acknowledged by then, and behind it one doubt at most.
use Rattle.std.specs.Prelude.{◌≡◌, ◌⊎◌, ℕ, ◌+◌, ◌≤◌, Some, List, [], ◌∷◌, ◌++◌, length, take}
use Rattle.std.specs.List.{slice_get}
use Rattle.disk_trait.specs.Past.{Past, Image, ImagesSince}
use Rattle.payload_log.specs.Kept.{RiseWithin}
use Rattle.payload_log.specs.declared.entry.Entry.TheVariants.{Done, Doubt}
use Rattle.locket.specs.Lives.{LockLog, lived}
use Rattle.locket.specs.Opening.{IsLocket}
use Rattle.locket.specs.declared.command.LockCommand.{LockCommand}

-- a doubt stands at this place of the log, and the life ends with it behind what is done before that
pub record EndsInDoubt (base : List LockCommand) (log : LockLog) (place : ℕ) (life : List LockCommand) : Type 0 where
  pub command : LockCommand
  pub doubt : slice_get log place ≡ Some (Doubt command)
  pub life_is : life ≡ lived base (take place log) ++ command ∷ []

-- a life that the log leads to: what is done up to a place, from this one on, or that and the doubt there
pub record IsLedTo (base : List LockCommand) (log : LockLog) (from : ℕ) (life : List LockCommand) : Type 0 where
  pub place : ℕ
  pub low : from ≤ place
  pub high : place ≤ length log
  pub ends : (life ≡ lived base (take place log)) ⊎ EndsInDoubt base log place life

-- the image is a locket with such a life
pub record IsFoundLocket (base : List LockCommand) (log : LockLog) (from : ℕ) (image : Image) : Type 0 where
  pub life : List LockCommand
  pub locket : IsLocket life image
  pub led : IsLedTo base log from life

-- each item has a mark, and whatever a stop since that moment left is a locket that the log leads to, with each
-- command that was done when its mark was reached
pub record KeptLocks (base : List LockCommand) (log : LockLog) (marks : List ℕ) (since : ℕ) (p : Past) : Type 0 where
  pub lock_count : length marks ≡ length log
  pub lock_rising : RiseWithin since marks p.clock
  pub lock_found : (image : Image) → ImagesSince p since image → IsFoundLocket base log 0 image
  pub lock_acknowledged : (place mark : ℕ) (command : LockCommand) → slice_get log place ≡ Some (Done command)
      → slice_get marks place ≡ Some mark
      → (image : Image) → ImagesSince p mark image → IsFoundLocket base log (place + 1) image
