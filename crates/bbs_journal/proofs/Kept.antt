-- A journal that was found may be gone on with.
use Rattle.std.proofs.Common.{◌≡◌, ℕ, ◌+◌, false, Option, Some, None, is_some, List, [], ◌∷◌, ◌++◌, length, refl, sym, ◌∙◌, subst, arith, length-append}
use Rattle.std.specs.Int.{w32, w64}
use Rattle.std.proofs.lemmas.List.{length-map}
use Rattle.std.specs.Option.{ForSome}
use Rattle.wire_fields.specs.Field.{field_number}
use Rattle.wire_fields.proofs.Public.{length-field_number}
use Rattle.disk_trait.specs.Held.{Held, Has, IsSettledArea}
use Rattle.disk_trait.specs.Past.{Past, Image, now, content, other, IsSettled}
use Rattle.disk_trait.specs.Steps.{Goes}
use Rattle.disk_trait.proofs.Public.{settled_has, goes_back}
use Rattle.disk_trait.specs.declared.area.Area.{Area}
use Rattle.bbs_journal.specs.Areas.{Ready}
use Rattle.bbs_journal.specs.Beside.{IsBeside}
use Rattle.bbs_journal.specs.Grammar.{heading}
use Rattle.bbs_journal.specs.Header.{mark, front, header_of, gate_of}
use Rattle.bbs_journal.specs.View.{HoldsFrames, IsKept}
use Rattle.bbs_journal.specs.Opening.{IsOpening}
use Rattle.disk_trait.specs.Shows.{Shows, Peeks, Secures}
use Rattle.bbs_journal.specs.Reading.{payloads_of, bytes_of}
use Rattle.bbs_journal.specs.Found.{IsFoundIn, IsCounted}
use Rattle.bbs_journal.specs.declared.find.Found.{Found}
use Rattle.bbs_journal.specs.declared.other_gate.OtherGate.{OtherGate}
use Rattle.bbs_journal.specs.declared.waiting.Waiting.TheVariants.{Nothing}
use Rattle.bbs_journal.proofs.Opening.{tested, other_gives, front_stands}
use Rattle.bbs_journal.proofs.Recovered.{recovered, ready}
use Rattle.bbs_journal.proofs.Version.{length-mark}

pub length-heading : (version generation : ℕ) (head : List ℕ)
    → length (heading version generation head) ≡ 22 + length head
length-heading version generation head =
    omega (
      arith,
      length-append (mark version) (field_number w64 generation
          ++ (field_number w32 (length head) ++ head)),
      length-append (field_number w64 generation)
          (field_number w32 (length head) ++ head),
      length-append (field_number w32 (length head)) head,
      length-field_number w64 generation,
      length-field_number w32 (length head),
      length-mark version,
    )

-- the other area stands beside it, whatever a stop leaves of it
found_beside : (c : Image) (found : Found) (held : Held) → IsFoundIn c found → IsSettledArea held
    → held.reads ≡ c (other found.place.area) → Has (IsBeside [] found.place.gate found.place.generation) held
found_beside c found held is settled reads =
    let t = tested c _ is.opening.head_is in
    let gives = other_gives c t.active t.chosen in
    let stands = front_stands t.active.generation (c (other t.active.area)) gives in
    let here : IsBeside [] (gate_of (header_of (front (c (other found.place.area))))) found.place.generation
    (c (other found.place.area)) =
    subst (λ (x : Area). IsBeside [] (gate_of (header_of (front (c (other x))))) found.place.generation (c (other x)))
    t.area_is
    (subst (λ (n : ℕ). IsBeside [] (gate_of (header_of (front (c (other t.active.area))))) n (c (other t.active.area)))
    t.generation_is stands) in
    settled_has (IsBeside [] found.place.gate found.place.generation) held settled
    (subst (IsBeside [] found.place.gate found.place.generation) (sym reads)
    (subst (λ (g : OtherGate). IsBeside [] g found.place.generation (c (other found.place.area)))
    (sym is.gate) here))

-- without a defect none is told
undamaged : (broken : Option ℕ) → is_some broken ≡ false → broken ≡ None
undamaged None is = refl
undamaged (Some at) is = absurd (cc)

-- an area that was opened without a defect, and is settled, holds the frames that were read of it
found_holds : (found : Found) (p : Past) → IsCounted found → IsSettled p
    → IsOpening (content p) found.place.area found.place.version found.place.generation found.head.items
    (payloads_of found.payloads.items) None found.place.end
    → HoldsFrames found.place.area found.place.version found.place.generation found.place.end found.place.frames false p
found_holds found p counts settled opening =
    let area = found.place.area in
    let payloads = payloads_of found.payloads.items in
    let r = recovered (content p) area found.place.version found.place.generation found.head.items payloads
    found.place.end (p.possible p.clock area).bytes opening in
    let first : List ℕ = r.gate ∷ heading found.place.version found.place.generation found.head.items in
    let place : length first + bytes_of payloads ≡ found.place.end =
    omega (arith, counts.end, length-heading found.place.version found.place.generation found.head.items) in
    record {
      gate = r.gate;
      is_open = r.is_open;
      version_is = r.goes_with.version_is;
      head = found.head.items;
      payloads = payloads;
      doubt = None;
      count = omega (arith, counts.frames, length-map found.payloads.items (λ v. v.items));
      doubtful = refl;
      stands = subst (λ (n : ℕ). Ready first payloads n (now p area)) place
          (ready first payloads (now p area) r.area_is (settled area));
    }

found_kept : (found : Found) (p : Past) → IsCounted found → IsSettled p → IsFoundIn (content p) found
    → IsKept found.place.area found.place.version found.place.generation found.place.end found.place.frames Nothing
    found.place.broken found.place.gate p
found_kept found p counts settled is = record {
  holds = λ whole. found_holds found p counts settled
      (subst (λ (b : Option ℕ). IsOpening (content p) found.place.area found.place.version found.place.generation
      found.head.items (payloads_of found.payloads.items) b found.place.end)
      (undamaged found.broken (sym counts.broken ∙ whole)) is.opening);
  next = [];
  beside = found_beside (content p) found (now p (other found.place.area)) is (settled (other found.place.area)) refl;
}

-- ---- the same, where the disk may tell nothing

pub kept_found : (t0 t1 t2 : Option Past) (found : Found) → Goes t0 t1 Secures → Goes t1 t2 Peeks → IsCounted found
    → ((c : Image) → Shows t2 c → IsFoundIn c found)
    → ForSome t2 (IsKept found.place.area found.place.version found.place.generation found.place.end found.place.frames
    Nothing found.place.broken found.place.gate)
kept_found t0 t1 t2 found synced peeked counts shows q is =
    let back = goes_back t1 t2 Peeks peeked q is in
    let first = goes_back t0 t1 Secures synced back.0 back.1 in
    let settled : IsSettled q = λ area. subst IsSettledArea (sym (back.2.still area)) (first.2.settled area) in
    let shown : Shows t2 (content q) = subst (λ (t : Option Past). Shows t (content q)) (sym is) (λ area. refl) in
    found_kept found q counts settled (shows (content q) shown)
