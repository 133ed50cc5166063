-- What is opened without a defect is what the grammar describes.
use Rattle.std.specs.Prelude.{if◌then◌else◌, ◌==◌, nat_lt}
use Rattle.std.proofs.Common.{◌≡◌, inl, inr, ℕ, zero, suc, ◌+◌, ◌<◌, ◌≤◌, ◌^◌, min, Bool, true, false, None, List, [], ◌∷◌, ◌++◌, length, take, drop, get_or, refl, sym, ap, ◌∙◌, subst, arith, Ok, Err, append_assoc, length-append, length-drop, take-append-drop, take_at, drop_at}
use Rattle.std.specs.Int.{w32, w64, from_be_bytes}
use Rattle.std.proofs.lemmas.Nat.{be_bytes_4, be_bytes_8}
use Rattle.std.proofs.lemmas.Bool.Decides.{nat_tests, leb_tells}
use Rattle.std.proofs.lemmas.List.Elements.{All-take, All-drop, All-get_or}
use Rattle.std.proofs.lemmas.List.{take-take, drop-take, drop-drop, length-take, length-take-le, get_or_past}
use Rattle.wire_fields.specs.Field.{field_number}
use Rattle.disk_trait.proofs.Public.{settled_has}
use Rattle.disk_trait.specs.Held.{AreBytes}
use Rattle.disk_trait.specs.Past.{Image, other}
use Rattle.disk_trait.specs.declared.area.Area.{Area}
use Rattle.disk_trait.specs.declared.area.Area.TheVariants.{A, B}
use Rattle.bbs_journal.specs.Frames.{Whole}
use Rattle.bbs_journal.specs.Areas.{Begins}
use Rattle.bbs_journal.specs.Header.{mark, front, header_of, behind_gate, gate_of}
use Rattle.bbs_journal.specs.Opening.{Headed, active_of, size_of, size_in, is_ahead, AreFrames}
use Rattle.bbs_journal.specs.Reading.{bytes_of}
use Rattle.bbs_journal.specs.Grammar.{heading, GoesWith, Recovers, AreRecovered, AreReady}
use Rattle.bbs_journal.specs.declared.active.Active.{Active}
use Rattle.bbs_journal.specs.declared.header.Header.TheVariants.{Closed, Open}
use Rattle.bbs_journal.specs.declared.load_fault.LoadFault.TheVariants.{Damaged}
use Rattle.bbs_journal.specs.declared.other_gate.OtherGate.TheVariants.{Shut}
use Rattle.bbs_journal.proofs.FrameAt.{length-spelled_on}
use Rattle.bbs_journal.proofs.Version.{length-mark, marked}
use Rattle.bbs_journal.proofs.Opening.{opened, tested, size_fits, other_gives, front_yields, open_gate, own_is}
use Rattle.bbs_journal.proofs.Loads.{are_whole}
use Rattle.bbs_journal.proofs.Accepted.{bytes_cons, ok_of}

-- ---- a settled area takes frames

whole_length : (payloads : List (List ℕ)) (frames : List ℕ) → Whole payloads frames → length frames ≡ bytes_of payloads
whole_length [] frames whole = ap length whole
whole_length (payload ∷ payloads) frames (rest, frame, whole) =
    omega (
      arith,
      ap length frame.parts,
      length-spelled_on payload rest,
      whole_length payloads rest whole,
      bytes_cons payload payloads,
    )

pub ready : AreReady
ready head payloads held area settled = record {
  frames = area.frames;
  whole = area.whole;
  place = omega (arith, length-append head area.frames, whole_length payloads area.frames area.whole);
  has = settled_has (Begins (head ++ area.frames ++ 0 ∷ [])) held settled area.begins;
}

-- ---- what was read of a header is what the grammar says

byte_in : (bytes : List ℕ) → AreBytes bytes → (i : ℕ) → get_or bytes i 0 < 256
byte_in bytes are i = elim (leb_tells (length bytes) i) [
  | inl past ↦ subst (λ (n : ℕ). n < 256) (sym (get_or_past bytes i 0 past.1)) (omega arith)
  | inr here ↦ All-get_or (λ (b : ℕ). b < 256) bytes i 0 here.1 are
]

below_8 : (bytes : List ℕ) → ((i : ℕ) → get_or bytes i 0 < 256) → from_be_bytes w64 bytes < 2 ^ 64
below_8 bytes fits = omega (arith, fits 0, fits 1, fits 2, fits 3, fits 4, fits 5, fits 6, fits 7)

below_4 : (bytes : List ℕ) → ((i : ℕ) → get_or bytes i 0 < 256) → from_be_bytes w32 bytes < 2 ^ 32
below_4 bytes fits = omega (arith, fits 0, fits 1, fits 2, fits 3)

-- what the tests on the head have told
record IsSound (active : Active) (bytes : List ℕ) (len size : ℕ) : Type 0 where
  pub above : 0 < active.generation
  pub size_is : size ≡ size_in bytes
  pub ahead : is_ahead active.version active.generation bytes ≡ false

by_head : (a b d e : Bool) (area : Area) (len n size : ℕ)
    → (if a then Err (Damaged area 11) else (if b then Err (Damaged area len) else
    (if d then Err (Damaged area 11) else (if e then Err (Damaged area len) else Ok n)))) ≡ ok_of size
    → (a ≡ false) × (d ≡ false) × (size ≡ n)
by_head true b d e area len n size is = absurd (cc)
by_head false true d e area len n size is = absurd (cc)
by_head false false true e area len n size is = absurd (cc)
by_head false false false true area len n size is = absurd (cc)
by_head false false false false area len n size is = (refl, refl, cc)

sound : (active : Active) (bytes : List ℕ) (len size : ℕ) → size_of active bytes len ≡ Ok size
    → IsSound active bytes len size
unfolding size_of
sound active bytes len size is =
    let tests = by_head (active.generation == 0) (nat_lt (length bytes) 23)
    (is_ahead active.version active.generation bytes) (nat_lt len (23 + size_in bytes)) active.area len
    (size_in bytes) size is in
    record { above = let t = tests.0 in grind (arith, nat_tests); size_is = tests.2; ahead = tests.1 }

not_above : (version generation : ℕ) (bytes : List ℕ) → is_ahead version generation bytes ≡ false → 31 ≤ length bytes
    → 8 ≤ size_in bytes → generation ≤ from_be_bytes w64 (take 8 (drop 23 bytes)) + version
unfolding is_ahead
not_above version generation bytes is long size = grind (arith, nat_tests)

module _ (gate version generation size : ℕ) (behind : List ℕ) (are : AreBytes behind)
    (header : behind_gate (take 30 behind) ≡ Open version generation) (fits : 22 + size ≤ length behind)
    (tests : IsSound (opened A version generation) (front (gate ∷ behind)) (suc (length behind)) size) where
  abbrev tail : List ℕ
  tail = drop 10 behind

  begins_marked : behind ≡ mark version ++ tail
  begins_marked =
      let m = marked version generation (take 30 behind) header in
      sym (take-append-drop 10 behind) ∙ ap (λ (l : List ℕ). l ++ drop 10 behind)
      (sym (take-take 10 30 behind (omega arith)) ∙ ap (take 10) m.parts ∙ take_at (mark version) m.rest 10
      (length-mark version))

  tail_number : from_be_bytes w64 (take 8 tail) ≡ generation
  tail_number =
      let m = marked version generation (take 30 behind) header in
      let same : take 20 tail ≡ m.rest = sym (drop-take 10 20 behind) ∙ ap (drop 10) m.parts ∙ drop_at
      (mark version) m.rest 10 (length-mark version) in
      ap (from_be_bytes w64) (sym (take-take 8 20 tail (omega arith)) ∙ ap (take 8) same) ∙ m.number

  tail_size : from_be_bytes w32 (take 4 (drop 8 tail)) ≡ size
  unfolding size_in
  tail_size =
      ap (λ (l : List ℕ). from_be_bytes w32 (take 4 l)) (drop-drop 8 10 behind)
      ∙ ap (from_be_bytes w32) (sym (take-take 4 12 (drop 18 behind) (omega arith)))
      ∙ ap (λ (l : List ℕ). from_be_bytes w32 (take 4 l)) (sym (drop-take 18 12 behind))
      ∙ sym tests.size_is

  abbrev head : List ℕ
  head = take size (drop 22 behind)

  length-head : length head ≡ size
  length-head = length-take-le size (drop 22 behind) (omega (arith, length-drop 22 behind, fits))

  number_part : (n m : ℕ) (bytes : List ℕ) → AreBytes bytes → (i : ℕ) → get_or (take n (drop m bytes)) i 0 < 256
  number_part n m bytes all = byte_in (take n (drop m bytes))
      (All-take (λ (b : ℕ). b < 256) n (drop m bytes) (All-drop (λ (b : ℕ). b < 256) m bytes all))

  generation_spelled : field_number w64 generation ≡ take 8 tail
  unfolding field_number
  generation_spelled = be_bytes_8 (take 8 tail) generation
      (length-take-le 8 tail (omega (arith, length-drop 10 behind, fits))) (number_part 8 10 behind are)
      (sym tail_number)

  size_spelled : field_number w32 (length head) ≡ take 4 (drop 8 tail)
  unfolding field_number
  size_spelled =
      be_bytes_4 (take 4 (drop 8 tail)) (length head) (length-take-le 4 (drop 8 tail)
      (omega (arith, length-drop 8 tail, length-drop 10 behind, fits)))
      (subst (λ (l : List ℕ). (i : ℕ) → get_or (take 4 l) i 0 < 256) (sym (drop-drop 8 10 behind))
      (number_part 4 18 behind are)) (length-head ∙ sym tail_size)

  tail_parts : tail ≡ field_number w64 generation ++ (field_number w32 (length head)
      ++ (head ++ drop (22 + size) behind))
  tail_parts =
      sym (take-append-drop 8 tail) ∙ ap (λ (l : List ℕ). l ++ drop 8 tail) (sym generation_spelled)
      ∙ ap (λ (l : List ℕ). field_number w64 generation ++ l)
      (sym (take-append-drop 4 (drop 8 tail)) ∙ ap (λ (l : List ℕ). l ++ drop 4 (drop 8 tail)) (sym size_spelled)
      ∙ ap (λ (l : List ℕ). field_number w32 (length head) ++ l)
      (ap (drop 4) (drop-drop 8 10 behind) ∙ drop-drop 4 18 behind ∙ sym
      (take-append-drop size (drop 22 behind)) ∙ ap (λ (l : List ℕ). head ++ l) (drop-drop size 22 behind)))

  all_parts : gate ∷ behind ≡ (gate ∷ heading version generation head) ++ drop (22 + size) behind
  all_parts = ap (λ (l : List ℕ). gate ∷ l) (begins_marked ∙ ap (λ (l : List ℕ). mark version ++ l) tail_parts) ∙
      regroup (drop (22 + size) behind)
    where
      regroup : (rest : List ℕ) → gate ∷ (mark version ++ (field_number w64 generation
          ++ (field_number w32 (length head) ++ (head ++ rest)))) ≡ (gate ∷ heading version generation head) ++ rest
      regroup rest = simp append_assoc

  goes_with : GoesWith version generation head
  goes_with = record {
    version_is = (marked version generation (take 30 behind) header).version_is;
    above = tests.above;
    below = subst (λ (n : ℕ). n < 2 ^ 64) tail_number (below_8 (take 8 tail) (number_part 8 10 behind are));
    fits = subst (λ (n : ℕ). n < 2 ^ 32) (tail_size ∙ sym length-head)
        (below_4 (take 4 (drop 8 tail)) (subst (λ (l : List ℕ). (i : ℕ) → get_or (take 4 l) i 0 < 256)
        (sym (drop-drop 8 10 behind)) (number_part 4 18 behind are)));
    not_ahead = λ eight.
        let long : length (front (gate ∷ behind)) ≡ min 31 (length (gate ∷ behind)) = length-take 31 (gate ∷ behind) in
        let bound = not_above version generation (front (gate ∷ behind)) tests.ahead
        (omega (arith, long, fits, eight, length-head)) (omega (arith, eight, length-head, tests.size_is)) in
        let same : take 8 (drop 23 (front (gate ∷ behind))) ≡ take 8 head =
        ap (take 8) (drop-take 23 8 (gate ∷ behind)) ∙ take-take 8 8 (drop 22 behind) (omega arith) ∙ sym
        (take-take 8 size (drop 22 behind) (omega (arith, eight, length-head))) in
        omega (arith, bound, ap (from_be_bytes w64) same);
  }

-- ---- all of it

record IsHeaded (version generation size : ℕ) (bytes : List ℕ) : Type 0 where
  pub gate : ℕ
  pub is_open : 0 < gate
  pub goes : GoesWith version generation (take size (drop 23 bytes))
  pub parts : bytes ≡ (gate ∷ heading version generation (take size (drop 23 bytes))) ++ drop (23 + size) bytes

headed_bytes : (version generation size : ℕ) (bytes : List ℕ) → AreBytes bytes
    → header_of (front bytes) ≡ Open version generation → 23 + size ≤ length bytes
    → IsSound (opened A version generation) (front bytes) (length bytes) size → IsHeaded version generation size bytes
headed_bytes version generation size [] are header fits tests = absurd (omega (arith, fits))
headed_bytes version generation size (zero ∷ behind) are header fits tests = absurd (closed_open header)
  where
    closed_open : Closed Shut ≡ Open version generation → ⊥
    closed_open e = cc
headed_bytes version generation size (suc n ∷ behind) are header fits tests =
    let open_is = sym (open_gate n (take 30 behind)) ∙ header in
    let within : 22 + size ≤ length behind = omega (arith, fits) in
    let step : 23 + size ≡ suc (22 + size) = omega arith in
    record {
      gate = suc n;
      is_open = omega arith;
      goes = goes_with (suc n) version generation size behind (are_rest (suc n) behind are) open_is within tests;
      parts = all_parts (suc n) version generation size behind (are_rest (suc n) behind are) open_is within tests ∙ ap
          (λ (l : List ℕ). (suc n ∷ heading version generation (take size (drop 22 behind))) ++ l)
          (ap (λ (k : ℕ). drop k (suc n ∷ behind)) (sym step));
    }
  where
    are_rest : (x : ℕ) (l : List ℕ) → AreBytes (x ∷ l) → AreBytes l
    are_rest x l all = All-drop (λ (b : ℕ). b < 256) 1 (x ∷ l) all

in_area : (c : Image) (active : Active) (size : ℕ) (payloads : List (List ℕ)) (end : ℕ) → AreBytes (c active.area)
    → active_of (header_of (front (c A))) (header_of (front (c B))) ≡ Ok active
    → size_of active (front (c active.area)) (length (c active.area)) ≡ Ok size
    → AreFrames payloads None end (23 + length (take size (drop 23 (c active.area))))
    (drop (23 + length (take size (drop 23 (c active.area)))) (c active.area))
    → Recovers c active.area active.version active.generation (take size (drop 23 (c active.area))) payloads
in_area c active size payloads end are chosen sized frames =
    let area : Area = active.area in
    let head : List ℕ = take size (drop 23 (c area)) in
    let fits = size_fits active (front (c area)) (length (c area)) size sized in
    let tests = sound active (front (c area)) (length (c area)) size sized in
    let whole = headed_bytes active.version active.generation size (c area) are (own_is c active chosen) fits
    (record { above = tests.above; size_is = tests.size_is; ahead = tests.ahead }) in
    let count : length head ≡ size = length-take-le size (drop 23 (c area))
    (omega (arith, fits, length-drop 23 (c area))) in
    let listed = are_whole payloads end (23 + length head) (drop (23 + length head) (c area)) frames in
    let first : List ℕ = whole.gate ∷ heading active.version active.generation head in
    record {
      gate = whole.gate;
      is_open = whole.is_open;
      goes_with = whole.goes;
      area_is = record {
        frames = listed.frames;
        whole = listed.whole;
        begins = record {
          rest = listed.begins.rest;
          parts = whole.parts ∙ ap (λ (n : ℕ). first ++ drop (23 + n) (c area)) (sym count) ∙ ap
              (λ (l : List ℕ). first ++ l) listed.begins.parts
              ∙ regroup first listed.frames listed.begins.rest;
        };
      };
      beside = gate_of (header_of (front (c (other area))));
      yields = front_yields active.generation (c (other area)) (other_gives c active chosen);
    }
  where
    regroup : (h frames rest : List ℕ) → h ++ ((frames ++ 0 ∷ []) ++ rest) ≡ (h ++ frames ++ 0 ∷ []) ++ rest
    regroup h frames rest = simp append_assoc

pub recovered : AreRecovered
recovered c area version generation head payloads end are opening =
    let t = tested c _ opening.head_is in
    subst (λ (h : Headed). AreBytes (c h.area) → AreFrames payloads None end (23 + length h.head)
    (drop (23 + length h.head) (c h.area)) → Recovers c h.area h.version h.generation h.head payloads)
    t.parts (λ all frames. in_area c t.active t.size payloads end all t.chosen t.sized frames) are opening.frames
