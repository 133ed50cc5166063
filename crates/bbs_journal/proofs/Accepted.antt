-- What the grammar describes is opened so.
use Rattle.std.specs.Prelude.{if◌then◌else◌, ◌==◌, nat_lt, nat_le, ◌&&◌}
use Rattle.std.proofs.Common.{◌≡◌, inl, inr, ℕ, zero, suc, ◌+◌, ◌<◌, ◌≤◌, ◌^◌, min, Bool, true, false, None, List, [], ◌∷◌, ◌++◌, length, take, drop, refl, sym, ap, ◌∙◌, subst, arith, Result, Ok, Err, append_assoc, length-append, take_at, drop_at}
use Rattle.std.specs.Int.{w32, w64, from_be_bytes}
use Rattle.std.proofs.lemmas.Nat.{from_be_bytes-to_be_bytes_4, from_be_bytes-to_be_bytes_8}
use Rattle.std.proofs.lemmas.Bool.Decides.{nat_tests}
use Rattle.std.proofs.lemmas.List.{take-take, drop-take, drop-drop, length-take, take-append-le}
use Rattle.std.proofs.lemmas.List.Sums.{sum_by-cons}
use Rattle.wire_fields.specs.Field.{field_number}
use Rattle.wire_fields.proofs.Public.{length-field_number}
use Rattle.disk_trait.specs.Past.{Image, other}
use Rattle.disk_trait.specs.declared.area.Area.{Area}
use Rattle.disk_trait.specs.declared.area.Area.TheVariants.{A, B}
use Rattle.bbs_journal.specs.Frames.{frame_spelled, Whole}
use Rattle.bbs_journal.specs.Header.{IsVersion, mark, front, header_of, behind_gate}
use Rattle.bbs_journal.specs.Other.{Yields}
use Rattle.bbs_journal.specs.Opening.{active_of, newer, size_of, size_in, is_ahead, AreFrames}
use Rattle.bbs_journal.specs.Reading.{bytes_of}
use Rattle.bbs_journal.specs.Grammar.{heading, GoesWith, AreOpened}
use Rattle.bbs_journal.specs.declared.active.Active.{Active}
use Rattle.bbs_journal.specs.declared.header.Header.{Header}
use Rattle.bbs_journal.specs.declared.header.Header.TheVariants.{Closed, Foreign, Cut, Open}
use Rattle.bbs_journal.specs.declared.load_fault.LoadFault.{LoadFault}
use Rattle.bbs_journal.specs.declared.load_fault.LoadFault.TheVariants.{Damaged}
use Rattle.bbs_journal.specs.declared.other_gate.OtherGate.{OtherGate}
use Rattle.bbs_journal.specs.declared.other_gate.OtherGate.TheVariants.{Shut, Loose, Written}
use Rattle.bbs_journal.proofs.Opening.{GivesWay, opened, open_gate, headed_ok}
use Rattle.bbs_journal.proofs.Version.{length-mark, take_mark, mark_read}

abbrev pub ok_of : ℕ → Result ℕ LoadFault
ok_of n = Ok n

abbrev pub active_ok : Active → Result Active LoadFault
active_ok active = Ok active

-- ---- frames

pub bytes_cons : (payload : List ℕ) (payloads : List (List ℕ))
    → bytes_of (payload ∷ payloads) ≡ (3 + length payload) + bytes_of payloads
bytes_cons payload payloads = sum_by-cons (λ (p : List ℕ). 3 + length p) payload payloads

whole_frames : (payloads : List (List ℕ)) (frames rest : List ℕ) (end at : ℕ) → end ≡ at + bytes_of payloads
    → Whole payloads frames → AreFrames payloads None end at (frames ++ 0 ∷ rest)
whole_frames [] frames rest end at is whole = (
  omega (arith, is),
  record { rest = rest; parts = ap (λ (l : List ℕ). l ++ 0 ∷ rest) whole },
)
whole_frames (payload ∷ payloads) frames rest end at is (behind, frame, whole) = (
  behind ++ 0 ∷ rest,
  record {
    gate = frame.gate;
    is_open = frame.is_open;
    fits = frame.fits;
    parts = ap (λ (l : List ℕ). l ++ 0 ∷ rest) frame.parts ∙ ap (λ (l : List ℕ). frame.gate ∷ l)
        (append_assoc (frame_spelled payload) behind (0 ∷ rest));
  },
  whole_frames payloads behind rest end (at + 3 + length payload)
      (omega (arith, is, bytes_cons payload payloads)) whole,
)

-- ---- the header of the area that is read

number_8 : (generation : ℕ) (rest : List ℕ) → generation < 2 ^ 64
    → from_be_bytes w64 (take 8 (field_number w64 generation ++ rest)) ≡ generation
unfolding field_number
number_8 generation rest small =
    ap (from_be_bytes w64) (take_at (field_number w64 generation) rest 8 (length-field_number w64 generation)) ∙
    from_be_bytes-to_be_bytes_8 generation small

number_4 : (size : ℕ) (rest : List ℕ) → size < 2 ^ 32 → from_be_bytes w32 (take 4 (field_number w32 size ++ rest))
    ≡ size
unfolding field_number
number_4 size rest small = ap (from_be_bytes w32) (take_at (field_number w32 size) rest 4
    (length-field_number w32 size)) ∙ from_be_bytes-to_be_bytes_4 size small

-- whatever follows the generation
header_read : (version generation : ℕ) (tail : List ℕ) → IsVersion version → generation < 2 ^ 64
    → behind_gate (take 30 (mark version ++ (field_number w64 generation ++ tail))) ≡ Open version generation
header_read version generation tail is below =
    let bytes : List ℕ = field_number w64 generation ++ tail in
    let long : 8 ≤ length bytes = omega (
      arith,
      length-append (field_number w64 generation) tail,
      length-field_number w64 generation,
    ) in
    ap behind_gate (take_mark version 20 bytes)
    ∙ mark_read version generation (take 20 bytes) is (omega (arith, length-take 20 bytes, long))
    (ap (from_be_bytes w64) (take-take 8 20 bytes (omega arith)) ∙ number_8 generation tail below)

pub heading_read : (version generation : ℕ) (head rest more : List ℕ) → IsVersion version → generation < 2 ^ 64
    → behind_gate (take 30 ((heading version generation head ++ rest) ++ more)) ≡ Open version generation
heading_read version generation head rest more is below =
    ap (λ (l : List ℕ). behind_gate (take 30 l)) regroup ∙ header_read version generation
    (field_number w32 (length head) ++ (head ++ (rest ++ more))) is below
  where
    regroup : (heading version generation head ++ rest) ++ more ≡ mark version
        ++ (field_number w64 generation ++ (field_number w32 (length head) ++ (head ++ (rest ++ more))))
    regroup = simp append_assoc

module _ (version generation : ℕ) (head rest : List ℕ) (goes : GoesWith version generation head) where
  abbrev text : List ℕ
  text = mark version ++ (field_number w64 generation ++ (field_number w32 (length head) ++ (head ++ rest)))

  abbrev numbers : List ℕ
  numbers = field_number w64 generation ++ (field_number w32 (length head) ++ (head ++ rest))

  length-numbers : length numbers ≡ 12 + length head + length rest
  length-numbers =
      omega (
        arith,
        length-append (field_number w64 generation) (field_number w32 (length head) ++ (head ++ rest)),
        length-append (field_number w32 (length head)) (head ++ rest),
        length-append head rest,
        length-field_number w64 generation,
        length-field_number w32 (length head),
      )

  length-text : length text ≡ 22 + length head + length rest
  length-text = omega (arith, length-numbers, length-append (mark version) numbers, length-mark version)

  pub header_open : (n : ℕ) → header_of (front (suc n ∷ text)) ≡ Open version generation
  header_open n = open_gate n (take 30 text) ∙ header_read version generation
      (field_number w32 (length head) ++ (head ++ rest)) goes.version_is goes.below

  -- the bytes from the length of the head on
  drop_numbers : (gate : ℕ) → drop 19 (gate ∷ text) ≡ field_number w32 (length head) ++ (head ++ rest)
  drop_numbers gate =
      sym (drop-drop 8 11 (gate ∷ text)) ∙ ap (drop 8) (drop_at (mark version) numbers 10 (length-mark version))
      ∙ drop_at (field_number w64 generation) (field_number w32 (length head) ++ (head ++ rest)) 8
      (length-field_number w64 generation)

  drop_head : (gate : ℕ) → drop 23 (gate ∷ text) ≡ head ++ rest
  drop_head gate =
      sym (drop-drop 4 19 (gate ∷ text)) ∙ ap (drop 4) (drop_numbers gate) ∙ drop_at (field_number w32 (length head))
      (head ++ rest) 4 (length-field_number w32 (length head))

  size_there : (gate : ℕ) → size_in (front (gate ∷ text)) ≡ length head
  unfolding size_in
  size_there gate =
      ap (λ (l : List ℕ). from_be_bytes w32 (take 4 l)) (drop-take 19 12 (gate ∷ text))
      ∙ ap (from_be_bytes w32) (take-take 4 12 (drop 19 (gate ∷ text)) (omega arith))
      ∙ ap (λ (l : List ℕ). from_be_bytes w32 (take 4 l)) (drop_numbers gate)
      ∙ number_4 (length head) (head ++ rest) goes.fits

  first_there : (gate : ℕ) → 8 ≤ length head → from_be_bytes w64 (take 8 (drop 23 (front (gate ∷ text))))
      ≡ from_be_bytes w64 (take 8 head)
  first_there gate long =
      ap (λ (l : List ℕ). from_be_bytes w64 (take 8 l)) (drop-take 23 8 (gate ∷ text) ∙ ap (take 8) (drop_head gate))
      ∙ ap (from_be_bytes w64) (take-take 8 8 (head ++ rest) (omega arith) ∙ take-append-le 8 head rest long)

  not_ahead : (gate : ℕ) → is_ahead version generation (front (gate ∷ text)) ≡ false
  unfolding is_ahead
  not_ahead gate =
      let size = size_there gate in
      let number : 8 ≤ length head → from_be_bytes w64 (take 8 (drop 23 (front (gate ∷ text))))
      ≡ from_be_bytes w64 (take 8 head) = first_there gate in
      all_false (nat_le 31 (length (front (gate ∷ text)))) (nat_le 8 (size_in (front (gate ∷ text))))
      (nat_lt (from_be_bytes w64 (take 8 (drop 23 (front (gate ∷ text)))) + version) generation)
      (λ eight. let e : 8 ≤ length head = grind (arith, nat_tests) in let m = number e in let b = goes.not_ahead e in
      grind (arith, nat_tests))
    where
      and_false : (a d : Bool) → d ≡ false → (a && true && d) ≡ false
      and_false true d e = e
      and_false false d e = refl

      all_false : (a b d : Bool) → (b ≡ true → d ≡ false) → (a && b && d) ≡ false
      all_false a true d step = let e : d ≡ false = step refl in and_false a d e
      all_false true false d step = refl
      all_false false false d step = refl

  size_ok : (area : Area) (gate : ℕ) → size_of (opened area version generation) (front (gate ∷ text))
      (length (gate ∷ text)) ≡ ok_of (length head)
  unfolding size_of
  size_ok area gate =
      let size = size_there gate in
      let ahead = not_ahead gate in
      let long : length (front (gate ∷ text)) ≡ min 31 (length (gate ∷ text)) = length-take 31 (gate ∷ text) in
      let above = goes.above in
      sized_if (generation == 0) (nat_lt (length (front (gate ∷ text))) 23)
      (is_ahead version generation (front (gate ∷ text)))
      (nat_lt (length (gate ∷ text)) (23 + size_in (front (gate ∷ text)))) area (length (gate ∷ text))
      (size_in (front (gate ∷ text))) (grind (arith, nat_tests)) (let t = length-text in grind (arith, nat_tests)) ahead
      (let t = length-text in grind (arith, nat_tests))
      ∙ ap ok_of size
    where
      sized_if : (a b d e : Bool) (area : Area) (len size : ℕ) → a ≡ false → b ≡ false → d ≡ false → e ≡ false
          → (if a then Err (Damaged area 11) else (if b then Err (Damaged area len) else
          (if d then Err (Damaged area 11) else (if e then Err (Damaged area len) else Ok size)))) ≡ ok_of size
      sized_if a b d e area len size first second third fourth = rw (first, second, third, fourth) refl

  -- the head, and what follows it
  head_there : (gate : ℕ) → take (length head) (drop 23 (gate ∷ text)) ≡ head
  head_there gate = ap (take (length head)) (drop_head gate) ∙ take_at head rest (length head) refl

  rest_there : (gate : ℕ) → drop (23 + length head) (gate ∷ text) ≡ rest
  rest_there gate = sym (drop-drop (length head) 23 (gate ∷ text)) ∙ ap (drop (length head))
      (drop_head gate) ∙ drop_at head rest (length head) refl

  gate_open : (gate : ℕ) → 0 < gate → header_of (front (gate ∷ text)) ≡ Open version generation
  gate_open zero is_open = absurd (omega (arith, is_open))
  gate_open (suc n) is_open = header_open n

-- ---- the area beside it

none_closed : behind_gate [] ≡ Closed Loose
unfolding behind_gate
none_closed = refl

short_gives : (generation : ℕ) (bytes : List ℕ) → length bytes ≤ 1 → GivesWay generation (header_of (front bytes))
short_gives generation [] short = tt
short_gives generation (zero ∷ []) short = tt
short_gives generation (suc n ∷ []) short = subst (GivesWay generation) (sym (open_gate n [] ∙ none_closed)) tt
short_gives generation (x ∷ y ∷ bytes) short = absurd (omega (arith, short))

older_gives : (generation gate version older : ℕ) (behind : List ℕ) → behind_gate (take 30 behind) ≡ Open version older
    → older < generation → GivesWay generation (header_of (front (gate ∷ behind)))
older_gives generation zero version older behind is below = tt
older_gives generation (suc n) version older behind is below =
    subst (GivesWay generation) (sym (open_gate n (take 30 behind) ∙ is)) below

pub yields_gives : (gate : OtherGate) (generation : ℕ) (bytes : List ℕ) → Yields gate generation bytes
    → GivesWay generation (header_of (front bytes))
yields_gives Shut generation bytes b = subst (λ (l : List ℕ). GivesWay generation (header_of (front l)))
    (sym b.parts) tt
yields_gives (Written size) generation bytes b = subst (λ (l : List ℕ). GivesWay generation (header_of (front l)))
    (sym b.parts) tt
yields_gives Loose generation bytes (inl short) = short_gives generation bytes short
yields_gives Loose generation bytes (inr older) =
    subst (λ (l : List ℕ). GivesWay generation (header_of (front l))) (sym older.parts)
    (older_gives generation older.gate older.version older.older older.behind older.header older.below)

-- ---- which of them is read

by_tests : (a b : Active) (same less : Bool) → same ≡ false → less ≡ true
    → (if same then Err (Damaged B 11) else (if less then Ok a else Ok b)) ≡ active_ok a
by_tests a b same less first second = rw (first, second) refl

by_tests_b : (a b : Active) (same less : Bool) → same ≡ false → less ≡ false
    → (if same then Err (Damaged B 11) else (if less then Ok a else Ok b)) ≡ active_ok b
by_tests_b a b same less first second = rw (first, second) refl

pub newer_a : (a b : Active) → b.generation < a.generation → newer a b ≡ active_ok a
newer_a a b less = by_tests a b (a.generation == b.generation) (nat_lt b.generation a.generation)
    (grind (arith, nat_tests)) (grind (arith, nat_tests))

pub newer_b : (a b : Active) → a.generation < b.generation → newer a b ≡ active_ok b
newer_b a b less = by_tests_b a b (a.generation == b.generation) (nat_lt b.generation a.generation)
    (grind (arith, nat_tests)) (grind (arith, nat_tests))

active_a : (version generation : ℕ) (b : Header) → GivesWay generation b
    → active_of (Open version generation) b ≡ active_ok (opened A version generation)
active_a version generation (Closed gate) gives = refl
active_a version generation Foreign gives = absurd gives
active_a version generation (Cut at) gives = absurd gives
active_a version generation (Open v older) gives = newer_a (opened A version generation) (opened B v older) gives

active_b : (version generation : ℕ) (a : Header) → GivesWay generation a
    → active_of a (Open version generation) ≡ active_ok (opened B version generation)
active_b version generation (Closed gate) gives = refl
active_b version generation Foreign gives = absurd gives
active_b version generation (Cut at) gives = absurd gives
active_b version generation (Open v older) gives = newer_b (opened A v older) (opened B version generation) gives

pub active_in : (c : Image) (area : Area) (version generation : ℕ)
    → header_of (front (c area)) ≡ Open version generation → GivesWay generation (header_of (front (c (other area))))
    → active_of (header_of (front (c A))) (header_of (front (c B))) ≡ active_ok (opened area version generation)
active_in c A version generation own gives = ap (λ (h : Header). active_of h (header_of (front (c B)))) own ∙ active_a
    version generation (header_of (front (c B))) gives
active_in c B version generation own gives = ap (active_of (header_of (front (c A)))) own ∙ active_b version generation
    (header_of (front (c A))) gives

-- ---- all of it

area_bytes : (gate version generation : ℕ) (head frames rest : List ℕ)
    → ((gate ∷ heading version generation head) ++ frames ++ 0 ∷ []) ++ rest ≡ gate
    ∷ (mark version ++ (field_number w64 generation ++ (field_number w32 (length head)
    ++ (head ++ (frames ++ 0 ∷ rest)))))
area_bytes gate version generation head frames rest = simp append_assoc

pub accepted : AreOpened
accepted c area version generation head payloads r =
    let rest : List ℕ = r.area_is.frames ++ 0 ∷ r.area_is.begins.rest in
    let bytes : c area ≡ r.gate ∷ text version generation head rest r.goes_with =
    r.area_is.begins.parts ∙ area_bytes r.gate version generation head r.area_is.frames r.area_is.begins.rest in
    let own : header_of (front (c area)) ≡ Open version generation =
    ap (λ (l : List ℕ). header_of (front l)) bytes ∙ gate_open version generation head rest r.goes_with r.gate
    r.is_open in
    let chosen = active_in c area version generation own (yields_gives r.beside generation (c (other area)) r.yields) in
    let sized : size_of (opened area version generation) (front (c area)) (length (c area)) ≡ ok_of (length head) =
    ap (λ (l : List ℕ). size_of (opened area version generation) (front l) (length l)) bytes ∙ size_ok version
    generation head rest r.goes_with area r.gate in
    record {
      head_is = headed_ok c (opened area version generation) (length head) chosen sized
          ∙ ap (λ (h : List ℕ). Ok (record { area = area; version = version; generation = generation; head = h }))
          (ap (λ (l : List ℕ). take (length head) (drop 23 l)) bytes ∙ head_there version generation head rest
          r.goes_with r.gate);
      frames = subst (AreFrames payloads None (23 + length head + bytes_of payloads) (23 + length head))
          (sym (ap (drop (23 + length head)) bytes ∙ rest_there version generation head rest r.goes_with r.gate))
          (whole_frames payloads r.area_is.frames r.area_is.begins.rest (23 + length head + bytes_of payloads)
          (23 + length head) refl r.area_is.whole);
    }
