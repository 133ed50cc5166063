-- What mending and then appending do to the area of a journal, when at most the gate behind its last frame waits.
use Rattle.std.specs.Prelude.{◌≡◌, ◌⊎◌, ℕ, ◌+◌, ◌≤◌, Bool, true, false, is_some, Option, Some, List, [], ◌∷◌, ◌++◌, length, if◌then◌else◌}
use Rattle.disk_trait.specs.Held.{Held}
use Rattle.disk_trait.specs.Past.{Past, now}
use Rattle.disk_trait.specs.Runs.{Runs}
use Rattle.disk_trait.specs.declared.area.Area.{Area}
use Rattle.bbs_journal.specs.Areas.{IsArea, Ready, Stands}
use Rattle.bbs_journal.specs.Calls.{mend_calls}
use Rattle.bbs_journal.specs.View.{is_waiting}
use Rattle.bbs_journal.specs.declared.waiting.Waiting.{Waiting}
use Rattle.bbs_journal.specs.declared.waiting.Waiting.TheVariants.{Nothing, Frame}

-- where a gate waits it is the one behind the last frame
abbrev pub OnlyFrameWaits : Waiting → Type 0
OnlyFrameWaits waiting = waiting ≡ (if is_waiting waiting then Frame else Nothing)

-- this payload is the one in doubt, or the new one
abbrev pub IsOneOf : Option (List ℕ) → List ℕ → List ℕ → Type 0
IsOneOf doubt payload one = (doubt ≡ Some one) ⊎ (one ≡ payload)

-- the area holds these payloads and then the one in doubt or the new one
pub record HasOneMore (head : List ℕ) (payloads : List (List ℕ)) (doubt : Option (List ℕ))
    (payload bytes : List ℕ) : Type 0 where
  pub one : List ℕ
  pub which : IsOneOf doubt payload one
  pub area_is : IsArea head (payloads ++ one ∷ []) bytes

-- what a stop may leave meanwhile: these payloads, or one more
abbrev pub MayHold : List ℕ → List (List ℕ) → Option (List ℕ) → List ℕ → List ℕ → Type 0
MayHold head payloads doubt payload bytes = IsArea head payloads bytes ⊎ HasOneMore head payloads doubt payload bytes

-- the payload was refused, and one may be in doubt now
pub record LeftOut (waits : Bool) (head : List ℕ) (payloads : List (List ℕ)) (doubt : Option (List ℕ))
    (payload : List ℕ) (end : ℕ) (held : Held) : Type 0 where
  pub left : Option (List ℕ)
  pub waits_is : waits ≡ is_some left
  pub which : (one : List ℕ) → left ≡ Some one → IsOneOf doubt payload one
  pub stands : Stands head payloads left end held

-- how the area is left: with the payload, and nothing in doubt, or without it
abbrev pub IsLeft : Bool → Bool → List ℕ → List (List ℕ) → Option (List ℕ) → List ℕ → ℕ → Held → Type 0
IsLeft true waits head payloads doubt payload end held =
    (waits ≡ false) × Ready head (payloads ++ payload ∷ []) (end + 3 + length payload) held
IsLeft false waits head payloads doubt payload end held = LeftOut waits head payloads doubt payload end held

-- a put into an area that holds these payloads and this doubt
pub record PutsOne (area : Area) (ok waits : Bool) (head : List ℕ) (payloads : List (List ℕ))
    (doubt : Option (List ℕ)) (payload : List ℕ) (end : ℕ) (p q : Past) : Type 0 where
  pub runs : Runs area (MayHold head payloads doubt payload) p q
  pub leaves : IsLeft ok waits head payloads doubt payload end (now q area)

-- whatever the area holds, this payload is put into it; `before` and `after` tell whether something waits
abbrev pub Puts : Area → Bool → Bool → Bool → List ℕ → ℕ → Past → Past → Type 0
Puts area ok before after payload end p q =
    (head : List ℕ) (payloads : List (List ℕ)) (doubt : Option (List ℕ)) → before ≡ is_some doubt
    → Stands head payloads doubt end (now p area)
    → PutsOne area ok after head payloads doubt payload end p q

-- the device calls of a put: four where it succeeds, behind the two of a mend where a gate waited; where it fails
-- no more than those and the two that close its own gate
pub record TakesPut (ok waits : Bool) (before after : ℕ) : Type 0 where
  pub done : ok ≡ true → after ≡ before + mend_calls waits + 4
  pub most : after ≤ before + mend_calls waits + 6
