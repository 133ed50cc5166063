-- What a stop leaves of an append is opened as the payloads before, or as those and the new one.
use Rattle.std.proofs.Common.{inl, inr, ⊎_elim, ℕ, ◌<◌, List, [], ◌∷◌, ◌++◌, subst}
use Rattle.disk_trait.specs.Held.{Held, Leaves}
use Rattle.disk_trait.specs.Past.{Image, other}
use Rattle.disk_trait.specs.declared.area.Area.{Area}
use Rattle.disk_trait.proofs.Public.{runs_there}
use Rattle.bbs_journal.specs.Areas.{IsArea, BeforeOrAfter}
use Rattle.bbs_journal.specs.Other.{Yields}
use Rattle.bbs_journal.specs.Grammar.{heading, GoesWith}
use Rattle.bbs_journal.specs.Stops.{OpensAs, StopsAreOpened, AcknowledgedAreOpened}
use Rattle.bbs_journal.specs.declared.other_gate.OtherGate.{OtherGate}
use Rattle.bbs_journal.proofs.Accepted.{accepted}

-- an area that the grammar describes, beside one that gives way, is opened
pub area_opens : (image : Image) (area : Area) (gate version generation : ℕ) (head : List ℕ) (payloads : List (List ℕ))
    (beside : OtherGate) → 0 < gate → GoesWith version generation head → Yields beside generation (image (other area))
    → IsArea (gate ∷ heading version generation head) payloads (image area)
    → OpensAs image area version generation head payloads
area_opens image area gate version generation head payloads beside is_open goes yields area_is =
    accepted image area version generation head payloads (record
    { gate = gate; is_open = is_open; goes_with = goes; area_is = area_is; beside = beside; yields = yields })

pub stops_opened : StopsAreOpened
stops_opened p q area gate version generation head payloads payload beside ok waits end is_open goes yields appends
    image images =
    let there = appends.runs.there images.moment images.from images.to in
    let gives : Yields beside generation (image (other area)) =
    yields.leaves (image (other area)) (subst (λ (h : Held). Leaves h (image (other area))) there
    (images.leaves (other area))) in
    ⊎_elim
    (λ before. inl (area_opens image area gate version generation head payloads beside is_open goes gives before))
    (λ after. inr (area_opens image area gate version generation head
    (payloads ++ payload ∷ []) beside is_open goes gives after))
    (appends.runs.each images.moment images.from images.to (image area) (images.leaves area))

pub acknowledged_opened : AcknowledgedAreOpened
acknowledged_opened p q area gate version generation head payloads payload beside waits end is_open goes yields appends
    image images =
    let front : List ℕ = gate ∷ heading version generation head in
    let there = runs_there (BeforeOrAfter front payloads payload) area p q appends.runs in
    let gives : Yields beside generation (image (other area)) =
    yields.leaves (image (other area)) (subst (λ (h : Held). Leaves h (image (other area))) there
    (images (other area))) in
    let ready = appends.leaves in
    area_opens image area gate version generation head (payloads ++ payload ∷ []) beside is_open goes gives
    (record { frames = ready.frames; whole = ready.whole; begins = ready.has.leaves (image area) (images area) })
