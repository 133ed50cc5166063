-- What a stop leaves of an append, and what that is opened as.
use Rattle.std.specs.Prelude.{◌⊎◌, ℕ, ◌+◌, ◌<◌, Bool, true, None, List, [], ◌∷◌, ◌++◌, length}
use Rattle.disk_trait.specs.Held.{Has}
use Rattle.disk_trait.specs.Past.{Past, Image, Images, ImagesSince, now, other}
use Rattle.disk_trait.specs.declared.area.Area.{Area}
use Rattle.bbs_journal.specs.Calls.{Appends}
use Rattle.bbs_journal.specs.Opening.{IsOpening}
use Rattle.bbs_journal.specs.Other.{Yields}
use Rattle.bbs_journal.specs.Reading.{bytes_of}
use Rattle.bbs_journal.specs.Grammar.{heading, GoesWith}
use Rattle.bbs_journal.specs.declared.other_gate.OtherGate.{OtherGate}

-- the image is opened as this head and these payloads, without a defect
abbrev pub OpensAs : Image → Area → ℕ → ℕ → List ℕ → List (List ℕ) → Type 0
OpensAs image area version generation head payloads = IsOpening image area version generation head payloads None (23 + length head + bytes_of payloads)

-- it is opened so, or with one payload more
abbrev pub OpensEither : Image → Area → ℕ → ℕ → List ℕ → List (List ℕ) → List ℕ → Type 0
OpensEither image area version generation head payloads payload =
    OpensAs image area version generation head payloads ⊎ OpensAs image area version generation head (payloads ++ payload ∷ [])

-- a stop during an append or right after it, made or failed, leaves what is opened as before or with the new payload
abbrev pub StopsAreOpened : Type 0
StopsAreOpened =
    (p q : Past) (area : Area) (gate version generation : ℕ) (head : List ℕ) (payloads : List (List ℕ)) (payload : List ℕ)
    (beside : OtherGate) (ok waits : Bool) (end : ℕ)
    → 0 < gate → GoesWith version generation head → Has (Yields beside generation) (now p (other area))
    → Appends area ok waits (gate ∷ heading version generation head) payloads payload end p q
    → (image : Image) → ImagesSince q p.clock image → OpensEither image area version generation head payloads payload

-- a stop after an append that was made leaves what is opened with the new payload
abbrev pub AcknowledgedAreOpened : Type 0
AcknowledgedAreOpened =
    (p q : Past) (area : Area) (gate version generation : ℕ) (head : List ℕ) (payloads : List (List ℕ)) (payload : List ℕ)
    (beside : OtherGate) (waits : Bool) (end : ℕ)
    → 0 < gate → GoesWith version generation head → Has (Yields beside generation) (now p (other area))
    → Appends area true waits (gate ∷ heading version generation head) payloads payload end p q
    → (image : Image) → Images q image → OpensAs image area version generation head (payloads ++ payload ∷ [])
