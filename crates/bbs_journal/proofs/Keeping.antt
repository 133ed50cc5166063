-- What a journal knows of its areas goes on being so.
use Rattle.std.specs.Prelude.{not}
use Rattle.std.proofs.lemmas.Bool.Decides.{leb_tells}
use Rattle.std.proofs.Common.{inl, inr, ◌-◌, ◌^◌, ◌≡◌, ℕ, ◌+◌, ◌<◌, ◌≤◌, Bool, true, false, Option, Some, None, List, [], ◌∷◌, ◌++◌, length, is_some, refl, sym, ap, subst, ◌∙◌, arith, length-append}
use Rattle.std.specs.Option.{ForSome}
use Rattle.disk_trait.specs.Held.{Held, Has}
use Rattle.disk_trait.specs.Past.{Past, now, content, other}
use Rattle.disk_trait.specs.Steps.{Goes, Ticks}
use Rattle.disk_trait.proofs.Public.{goes_back, length_overwritten, wrote_content, synced_content, runs_there}
use Rattle.disk_trait.specs.declared.area.Area.{Area}
use Rattle.bbs_journal.specs.Areas.{Ready, Stands, BeforeOrAfter, body_of}
use Rattle.bbs_journal.specs.Beside.{IsBeside}
use Rattle.bbs_journal.specs.Calls.{WritesSynced, AddsFrame, Closes, TakesCalls}
use Rattle.bbs_journal.specs.Grammar.{heading}
use Rattle.bbs_journal.specs.Header.{IsVersion}
use Rattle.bbs_journal.specs.Switching.{size_written}
use Rattle.bbs_journal.specs.View.{JournalView, HoldsFrames, IsKept}
use Rattle.bbs_journal.specs.declared.other_gate.OtherGate.{OtherGate}
use Rattle.bbs_journal.specs.declared.other_gate.OtherGate.TheVariants.{Written}
use Rattle.bbs_journal.specs.declared.waiting.Waiting.{Waiting}
use Rattle.bbs_journal.specs.declared.waiting.Waiting.TheVariants.{Nothing, Frame}
use Rattle.bbs_journal.proofs.Bytes.{begins_length, staged_length}

-- what follows of what a disk tells, before a call and after it
pub tells_on : (t0 t1 : Option Past) (Does : Past → Past → Type 0) (P Q : Past → Type 0)
    → ((p q : Past) → Does p q → P p → Q q) → Goes t0 t1 Does → ForSome t0 P → ForSome t1 Q
tells_on t0 t1 Does P Q step goes holds q is = let back = goes_back t0 t1 Does goes q is in
    step back.0 q back.2 (holds back.0 back.1)

-- without a doubt an area is ready
undoubted : (head : List ℕ) (payloads : List (List ℕ)) (doubt : Option (List ℕ)) (end : ℕ) (held : Held)
    → false ≡ is_some doubt → Stands head payloads doubt end held → Ready head payloads end held
undoubted head payloads None end held is stands = stands
undoubted head payloads (Some payload) end held is stands = absurd (cc)

-- all that stands in front of the frames
abbrev pub front_of : {area : Area} {version generation end frames : ℕ} {waits : Bool} {p : Past}
    → HoldsFrames area version generation end frames waits p → List ℕ
front_of {version = version} {generation = generation} holds = holds.gate ∷ heading version generation holds.head

pub ready_of : (area : Area) (version generation end frames : ℕ) (p : Past)
    (holds : HoldsFrames area version generation end frames false p)
    → Ready (front_of holds) holds.payloads end (now p area)
ready_of area version generation end frames p holds = undoubted (front_of holds) holds.payloads holds.doubt end
    (now p area) holds.doubtful holds.stands

-- the gate is within the area
ready_length : (head : List ℕ) (payloads : List (List ℕ)) (end : ℕ) (area : Area) (p : Past)
    → Ready head payloads end (now p area) → end + 1 ≤ length (content p area)
ready_length head payloads end area p ready =
    omega (
      arith,
      ready.place,
      length-append (head ++ ready.frames) (0 ∷ []),
      begins_length (head ++ ready.frames ++ 0 ∷ []) (content p area) ready.has.reads,
    )

stands_length : (head : List ℕ) (payloads : List (List ℕ)) (doubt : Option (List ℕ)) (end : ℕ) (area : Area) (p : Past)
    → Stands head payloads doubt end (now p area) → end + 1 ≤ length (content p area)
stands_length head payloads None end area p ready = ready_length head payloads end area p ready
stands_length head payloads (Some payload) end area p waits =
    omega (arith, waits.place, staged_length (head ++ waits.frames) (body_of payload) (content p area) waits.has.reads)

pub room : (t : Option Past) (area : Area) (version generation end frames : ℕ) (waiting : Waiting) (broken : Bool)
    (gate : OtherGate) → broken ≡ false → ForSome t (IsKept area version generation end frames waiting broken gate)
    → ForSome t (λ p. end + 1 ≤ length (content p area))
room t area version generation end frames waiting broken gate whole kept =
    λ p is. let holds = (kept p is).holds whole in stands_length
    (front_of holds) holds.payloads holds.doubt end area p holds.stands

-- and so it is once the body is written
pub room_on : (t0 t1 : Option Past) (area : Area) (end : ℕ) (body : List ℕ)
    → Goes t0 t1 (WritesSynced true area (end + 1) body) → ForSome t0 (λ p. end + 1 ≤ length (content p area))
    → ForSome t1 (λ p. end ≤ length (content p area))
room_on t0 t1 area end body goes holds =
    tells_on t0 t1 (WritesSynced true area (end + 1) body) (λ p. end + 1 ≤ length (content p area))
    (λ p. end ≤ length (content p area)) longer goes holds
  where
    longer : (p q : Past) → WritesSynced true area (end + 1) body p q → end + 1 ≤ length (content p area)
        → end ≤ length (content q area)
    longer p q (r, wrote, synced) within =
        let is = ap length (synced_content true area r q synced ∙ wrote_content area (end + 1) body p r wrote) in
        omega (arith, is, length_overwritten (end + 1) body (content p area) within)

-- an append, by how it ends
module _ (area : Area) (payload : List ℕ) (version generation end frames : ℕ) (p q : Past)
    (holds : HoldsFrames area version generation end frames false p) where
  added_done : AddsFrame area true false payload end p q
      → HoldsFrames area version generation (end + 3 + length payload) (frames + 1) false q
  added_done adds = record {
    gate = holds.gate;
    is_open = holds.is_open;
    version_is = holds.version_is;
    head = holds.head;
    payloads = holds.payloads ++ payload ∷ [];
    doubt = None;
    count = omega (arith, holds.count, length-append holds.payloads (payload ∷ []));
    doubtful = refl;
    stands = (adds (front_of holds) holds.payloads (ready_of area version generation end frames p holds)).leaves;
  }

  added_refused : AddsFrame area false false payload end p q → HoldsFrames area version generation end frames false q
  added_refused adds = record {
    gate = holds.gate;
    is_open = holds.is_open;
    version_is = holds.version_is;
    head = holds.head;
    payloads = holds.payloads;
    doubt = None;
    count = holds.count;
    doubtful = refl;
    stands = (adds (front_of holds) holds.payloads (ready_of area version generation end frames p holds)).leaves;
  }

  added_in_doubt : AddsFrame area false true payload end p q → HoldsFrames area version generation end frames true q
  added_in_doubt adds = record {
    gate = holds.gate;
    is_open = holds.is_open;
    version_is = holds.version_is;
    head = holds.head;
    payloads = holds.payloads;
    doubt = Some payload;
    count = holds.count;
    doubtful = refl;
    stands = (adds (front_of holds) holds.payloads (ready_of area version generation end frames p holds)).leaves;
  }

  -- an append leaves the other area as it was
  added_there : (ok waits : Bool) → AddsFrame area ok waits payload end p q → now q (other area) ≡ now p (other area)
  added_there ok waits adds =
      runs_there (BeforeOrAfter (front_of holds) holds.payloads payload) area p q
      (adds (front_of holds) holds.payloads (ready_of area version generation end frames p holds)).runs

module _ (t0 t1 : Option Past) (area : Area) (payload : List ℕ) (version generation end frames : ℕ) (broken : Bool)
    (gate : OtherGate) (whole : broken ≡ false) where
  pub kept_done : Goes t0 t1 (AddsFrame area true false payload end)
      → ForSome t0 (IsKept area version generation end frames Nothing broken gate)
      → ForSome t1 (IsKept area version generation (end + 3 + length payload) (frames + 1) Nothing broken gate)
  kept_done goes kept =
      tells_on t0 t1 (AddsFrame area true false payload end)
      (IsKept area version generation end frames Nothing broken gate)
      (IsKept area version generation (end + 3 + length payload) (frames + 1) Nothing broken gate)
      (λ p q adds kept. record {
        holds = λ _. added_done area payload version generation end frames p q (kept.holds whole) adds;
        next = kept.next;
        beside = subst (Has (IsBeside kept.next gate generation))
            (sym (added_there area payload version generation end frames p q (kept.holds whole) true false adds))
            kept.beside;
      }) goes kept

  pub kept_refused : Goes t0 t1 (AddsFrame area false false payload end)
      → ForSome t0 (IsKept area version generation end frames Nothing broken gate)
      → ForSome t1 (IsKept area version generation end frames Nothing broken gate)
  kept_refused goes kept =
      tells_on t0 t1 (AddsFrame area false false payload end)
      (IsKept area version generation end frames Nothing broken gate)
      (IsKept area version generation end frames Nothing broken gate)
      (λ p q adds kept. record {
        holds = λ _. added_refused area payload version generation end frames p q (kept.holds whole) adds;
        next = kept.next;
        beside = subst (Has (IsBeside kept.next gate generation))
            (sym (added_there area payload version generation end frames p q (kept.holds whole) false false adds))
            kept.beside;
      }) goes kept

  pub kept_in_doubt : Goes t0 t1 (AddsFrame area false true payload end)
      → ForSome t0 (IsKept area version generation end frames Nothing broken gate)
      → ForSome t1 (IsKept area version generation end frames Frame broken gate)
  kept_in_doubt goes kept =
      tells_on t0 t1 (AddsFrame area false true payload end)
      (IsKept area version generation end frames Nothing broken gate)
      (IsKept area version generation end frames Frame broken gate)
      (λ p q adds kept. record {
        holds = λ _. added_in_doubt area payload version generation end frames p q (kept.holds whole) adds;
        next = kept.next;
        beside = subst (Has (IsBeside kept.next gate generation))
            (sym (added_there area payload version generation end frames p q (kept.holds whole) false true adds))
            kept.beside;
      }) goes kept

-- a mend, by how it ends
record Mended (area : Area) (ok : Bool) (version generation end frames : ℕ) (p q : Past) : Type 0 where
  holds : HoldsFrames area version generation end frames (not ok) q
  there : now q (other area) ≡ now p (other area)

mended_so : (area : Area) (ok : Bool) (gate version generation end frames : ℕ) (p q : Past) (head : List ℕ)
    (payloads : List (List ℕ)) (doubt : Option (List ℕ)) → 0 < gate → IsVersion version → frames ≡ length payloads
    → true ≡ is_some doubt → Stands (gate ∷ heading version generation head) payloads doubt end (now p area)
    → Closes area ok end p q → Mended area ok version generation end frames p q
mended_so area ok gate version generation end frames p q head payloads None is_open version_is count is stands closes =
    absurd (cc)
mended_so area true gate version generation end frames p q head payloads
    (Some payload) is_open version_is count is stands closes =
    let mends = closes (gate ∷ heading version generation head) payloads payload stands in
    record {
      holds = record {
        gate = gate;
        is_open = is_open;
        version_is = version_is;
        head = head;
        payloads =
            payloads;
        doubt = None;
        count = count;
        doubtful = refl;
        stands = mends.leaves;
      };
      there = runs_there (BeforeOrAfter (gate ∷ heading version generation head) payloads payload) area p q mends.runs;
    }
mended_so area false gate version generation end frames p q head payloads
    (Some payload) is_open version_is count is stands closes =
    let mends = closes (gate ∷ heading version generation head) payloads payload stands in
    record {
      holds = record {
        gate = gate;
        is_open = is_open;
        version_is = version_is;
        head = head;
        payloads =
            payloads;
        doubt = Some payload;
        count = count;
        doubtful = refl;
        stands = mends.leaves;
      };
      there = runs_there (BeforeOrAfter (gate ∷ heading version generation head) payloads payload) area p q mends.runs;
    }

module _ (t0 t1 : Option Past) (area : Area) (version generation end frames : ℕ) (broken : Bool) (gate : OtherGate)
    (whole : broken ≡ false) where
  after_mend : (ok : Bool) (p q : Past) → Closes area ok end p q
      → IsKept area version generation end frames Frame broken gate p → Mended area ok version generation end frames p q
  after_mend ok p q closes kept =
      let h = kept.holds whole in mended_so area ok h.gate version generation end frames p q h.head h.payloads h.doubt
      h.is_open h.version_is h.count h.doubtful h.stands closes

  pub kept_mended : Goes t0 t1 (Closes area true end) → ForSome t0
      (IsKept area version generation end frames Frame broken gate)
      → ForSome t1 (IsKept area version generation end frames Nothing broken gate)
  kept_mended goes kept =
      tells_on t0 t1 (Closes area true end) (IsKept area version generation end frames Frame broken gate)
      (IsKept area version generation end frames Nothing broken gate)
      (λ p q closes kept. let after = after_mend true p q closes kept in record {
        holds = λ _. after.holds;
        next = kept.next;
        beside = subst (Has (IsBeside kept.next gate generation)) (sym after.there) kept.beside;
      }) goes kept

  pub kept_unmended : Goes t0 t1 (Closes area false end)
      → ForSome t0 (IsKept area version generation end frames Frame broken gate)
      → ForSome t1 (IsKept area version generation end frames Frame broken gate)
  kept_unmended goes kept =
      tells_on t0 t1 (Closes area false end) (IsKept area version generation end frames Frame broken gate)
      (IsKept area version generation end frames Frame broken gate)
      (λ p q closes kept. let after = after_mend false p q closes kept in record {
        holds = λ _. after.holds;
        next = kept.next;
        beside = subst (Has (IsBeside kept.next gate generation)) (sym after.there) kept.beside;
      }) goes kept

-- what is so of a value is so of the fields that it shows
pub broken_inside : {D : Type 0} (inside value : JournalView D) (broken : Bool) → inside ≡ value → value.broken ≡ broken
    → inside.broken ≡ broken
broken_inside {D = D} inside value broken is here = ap (λ (v : JournalView D). v.broken) is ∙ here

pub waiting_inside : {D : Type 0} (inside value : JournalView D) (waiting : Waiting) → inside ≡ value
    → value.waiting ≡ waiting → inside.waiting ≡ waiting
waiting_inside {D = D} inside value waiting is here = ap (λ (v : JournalView D). v.waiting) is ∙ here

pub gate_inside : {D : Type 0} (inside value : JournalView D) (gate : OtherGate) → inside ≡ value → value.gate ≡ gate
    → inside.gate ≡ gate
gate_inside {D = D} inside value gate is here = ap (λ (v : JournalView D). v.gate) is ∙ here

pub written_inside : {D : Type 0} (inside value : JournalView D) → inside ≡ value
    → value.gate ≡ Written (size_written value.gate) → inside.gate ≡ Written (size_written inside.gate)
written_inside {D = D} inside value is here = subst (λ (v : JournalView D). v.gate ≡ Written (size_written v.gate))
    (sym is) here

pub generation_inside : {D : Type 0} (inside value : JournalView D) → inside ≡ value → value.generation < 2 ^ 64 - 1
    → inside.generation < 2 ^ 64 - 1
generation_inside {D = D} inside value is here = subst (λ (v : JournalView D). v.generation < 2 ^ 64 - 1) (sym is) here

-- the moments of two calls that were both made
two_calls : (ok : Bool) (a b c : ℕ) → Ticks true a b → Ticks ok b c → ok ≡ true → c ≡ a + 2
two_calls true a b c first second is = elim (leb_tells (2 ^ 64 - 1) a) [
  | inl late ↦ absurd (let f : true ≡ false = first.fails late.1 in cc)
  | inr early ↦ elim (leb_tells (2 ^ 64 - 1) b) [
    | inl late ↦ absurd (let f : true ≡ false = second.fails late.1 in cc)
    | inr soon ↦ omega (arith, first.goes (omega (arith, early.1)), second.goes (omega (arith, soon.1)))
  ]
]
two_calls false a b c first second is = absurd (cc)

ticks_most : (ok : Bool) (a b : ℕ) → Ticks ok a b → b ≤ a + 1
ticks_most ok a b ticks = elim (leb_tells (2 ^ 64 - 1) a) [
  | inl late ↦ omega (arith, ticks.last late.1)
  | inr early ↦ omega (arith, ticks.goes (omega (arith, early.1)))
]

-- and how many moments they take at most
pub takes_two : (ok : Bool) (a b c : ℕ) → Ticks true a b → Ticks ok b c → TakesCalls ok 2 a c
takes_two ok a b c first second = record {
  done = two_calls ok a b c first second;
  most = omega (arith, ticks_most true a b first, ticks_most ok b c second);
}

-- two calls in front of others
pub takes_four : (ok : Bool) (a b c d : ℕ) → Ticks true a b → Ticks true b c → TakesCalls ok 2 c d → TakesCalls ok 4 a d
takes_four ok a b c d first second last = record {
  done = λ is. omega (arith, two_calls true a b c first second refl, last.done is);
  most = omega (arith, ticks_most true a b first, ticks_most true b c second, last.most);
}

-- the first or the second of four calls failed
pub fails_one : (a b : ℕ) → Ticks false a b → TakesCalls false 4 a b
fails_one a b first = record { done = λ is. absurd (cc (is)); most = omega (arith, ticks_most false a b first) }

pub fails_two : (a b c : ℕ) → Ticks true a b → Ticks false b c → TakesCalls false 4 a c
fails_two a b c first second = record {
  done = λ is. absurd (cc (is));
  most = omega (arith, ticks_most true a b first, ticks_most false b c second);
}
