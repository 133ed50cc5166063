-- What adding a payload does to a log and to a disk.
use Rattle.std.specs.Prelude.{◌≡◌, ◌⊎◌, ℕ, ◌+◌, Bool, true, false, List, [], ◌∷◌, ◌++◌, not}
use Rattle.byte_ports.specs.Cause.{HasCause}
use Rattle.disk_trait.specs.Past.{Past, Image, Images, ImagesSince}
use Rattle.disk_trait.specs.Runs.{Extends}
use Rattle.payload_log.specs.Doubts.{RoseBy}
use Rattle.payload_log.specs.Entries.{entry_of}
use Rattle.payload_log.specs.Opened.{Opened, OpensBehind}
use Rattle.payload_log.specs.Puts.{TakesPut}
use Rattle.payload_log.specs.View.{LogView}

-- the log has one entry more, of this payload, with this moment for a mark; once it is done nothing waits
pub record GrowsByOne {D X : Type 0} (ok : Bool) (x : X) (moment : ℕ) (old new : LogView D X) : Type 0 where
  pub start : new.start ≡ old.start
  pub since : new.since ≡ old.since
  pub faults : new.faults ≡ old.faults
  pub log : new.log ≡ old.log ++ entry_of ok x ∷ []
  pub marks : new.marks ≡ old.marks ++ moment ∷ []
  pub room : old.room ≡ new.room + 1
  pub calm : ok ≡ true → new.waits ≡ false

-- all the while a stop leaves these payloads, or those and one more; once that is put only the second, and where it
-- was refused and nothing waits only the first
pub record AddsOne (ok waits : Bool) (start : Opened) (payloads : List (List ℕ)) (payload : List ℕ)
    (p q : Past) : Type 0 where
  pub each : (image : Image) → ImagesSince q p.clock image
      → OpensBehind start payloads image ⊎ OpensBehind start (payloads ++ payload ∷ []) image
  pub done : ok ≡ true → (image : Image) → Images q image → OpensBehind start (payloads ++ payload ∷ []) image
  pub undone : ok ≡ false → waits ≡ false → (image : Image) → Images q image → OpensBehind start payloads image

-- time goes on, and where nothing waited to be mended it is known what a stop leaves to the byte
pub record PassesAdd (waited ok waits : Bool) (start : Opened) (payloads : List (List ℕ)) (payload : List ℕ)
    (p q : Past) : Type 0 where
  pub extends : Extends p q
  pub adds : waited ≡ false → AddsOne ok waits start payloads payload p q

-- how adding used its disk: how many device calls it made, and that the count of faults has risen where it failed, and
-- stands where it didn't; and that it has risen twice where something waits and nothing did before
pub record TakesAdd {D X : Type 0} (moment fault_count : D → ℕ) (ok : Bool) (old new : LogView D X) : Type 0 where
  pub calls : TakesPut ok old.waits (moment old.disk) (moment new.disk)
  pub cause : HasCause (not ok) (fault_count old.disk) (fault_count new.disk)
  pub closes : old.waits ≡ false → new.waits ≡ true → RoseBy 2 (fault_count old.disk) (fault_count new.disk)
