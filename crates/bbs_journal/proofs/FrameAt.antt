-- What the bytes behind a gate tell of a frame.
use Rattle.std.proofs.Common.{◌≡◌, ℕ, zero, suc, ◌+◌, ◌-◌, ◌<◌, ◌≤◌, Some, None, List, [], ◌∷◌, ◌++◌, length, take, drop, get_or, refl, sym, ap, ◌∙◌, subst, arith, inl, inr, append_assoc, length-append, length-drop, take-append-drop, take_at}
use Rattle.std.specs.Int.{w16, from_be_bytes}
use Rattle.std.proofs.lemmas.List.{take_all, length-take-le, get_or_past, get_or-take}
use Rattle.std.proofs.lemmas.Bool.Decides.{leb_tells, nat_tests}
use Rattle.std.proofs.lemmas.Nat.{from_be_bytes-to_be_bytes_2, be_bytes_2}
use Rattle.wire_fields.specs.Field.{field_number}
use Rattle.wire_fields.proofs.Public.{length-field_number}
use Rattle.bbs_journal.specs.Frames.{IsPayload, frame_spelled, IsFrame}
use Rattle.bbs_journal.specs.Opening.{IsBroken}
use Rattle.bbs_journal.specs.Reading.{len_in}

number_in : List ℕ → ℕ
number_in bytes = from_be_bytes w16 (take 2 bytes)

some_len : (bytes : List ℕ) (len : ℕ) → len_in bytes ≡ Some len → len ≡ from_be_bytes w16 (take 2 bytes)
unfolding len_in
some_len bytes len is = grind (arith, nat_tests)

none_len : (bytes : List ℕ) → len_in bytes ≡ None → 2 ≤ length bytes → 1 ≤ from_be_bytes w16 (take 2 bytes)
    → from_be_bytes w16 (take 2 bytes) ≤ 512 → length bytes < 2 + from_be_bytes w16 (take 2 bytes)
unfolding len_in
none_len bytes is two some few = grind (arith, nat_tests)

-- a spelled payload begins with its length
pub spelled_number : (payload rest : List ℕ) → IsPayload payload
    → from_be_bytes w16 (take 2 (frame_spelled payload ++ rest)) ≡ length payload
unfolding field_number
spelled_number payload rest fits =
    let n = field_number w16 (length payload) in
    let front : take 2 (frame_spelled payload ++ rest) ≡ n =
    ap (take 2) (append_assoc n payload rest) ∙ take_at n (payload ++ rest) 2
    (length-field_number w16 (length payload)) in
    ap (from_be_bytes w16) front ∙ from_be_bytes-to_be_bytes_2 (length payload) (omega (arith, fits.1))

pub length-spelled_on : (payload rest : List ℕ) → length (frame_spelled payload ++ rest)
    ≡ 2 + length payload + length rest
length-spelled_on payload rest = omega (
  arith,
  length-append (frame_spelled payload) rest,
  length-append (field_number w16 (length payload)) payload,
  length-field_number w16 (length payload),
)

behind_is : (gate other : ℕ) (a b : List ℕ) → gate ∷ a ≡ other ∷ b → (gate ≡ other) × (a ≡ b)
behind_is gate other a b e = (cc, cc)

-- where there is no such length there is no frame
pub broken_at : (gate : ℕ) (behind : List ℕ) → 0 < gate → len_in behind ≡ None → IsBroken (gate ∷ behind)
broken_at gate behind is_open none = record {
  no_gate = λ b. let same = behind_is gate 0 behind b.rest b.parts in omega (arith, same.0, is_open);
  no_frame = λ payload rest frame.
      let same = behind_is gate frame.gate behind (frame_spelled payload ++ rest) frame.parts in
      let number : from_be_bytes w16 (take 2 behind) ≡ length payload =
      ap (λ (l : List ℕ). from_be_bytes w16 (take 2 l)) same.1 ∙ spelled_number payload rest frame.fits in
      let long : length behind ≡ 2 + length payload + length rest = ap length same.1 ∙ length-spelled_on payload rest in
      let fits = frame.fits in
      let short = none_len behind none (omega (arith, long)) (omega (arith, number, fits.0))
      (omega (arith, number, fits.1)) in
      omega (arith, number, long, short);
}

-- and where there is one the payload follows
pub frame_at : (gate : ℕ) (behind : List ℕ) (len : ℕ) → 0 < gate → ((i : ℕ) → get_or behind i 0 < 256)
    → len_in behind ≡ Some len → 1 ≤ len → len ≤ 512 → 2 + len ≤ length behind
    → (rest : List ℕ) × IsFrame (take len (drop 2 behind)) (gate ∷ behind) rest
unfolding field_number
frame_at gate behind len is_open bytes some low high within =
    let payload : List ℕ = take len (drop 2 behind) in
    let rest : List ℕ = drop len (drop 2 behind) in
    let size : length payload ≡ len = length-take-le len (drop 2 behind)
    (omega (arith, length-drop 2 behind, within)) in
    let two : length (take 2 behind) ≡ 2 = length-take-le 2 behind (omega (arith, within)) in
    let low_bytes : (i : ℕ) → get_or (take 2 behind) i 0 < 256 = λ i. elim (leb_tells 2 i) [
      | inl past ↦ subst (λ (n : ℕ). n < 256) (sym (get_or_past (take 2 behind) i 0 (omega (arith, two, past.1))))
          (omega arith)
      | inr here ↦ subst (λ (n : ℕ). n < 256) (sym (get_or-take 2 behind i 0 here.1)) (bytes i)
    ] in
    let number : field_number w16 (length payload) ≡ take 2 behind =
    ap (field_number w16) size ∙ be_bytes_2 (take 2 behind) len two low_bytes (some_len behind len some) in
    let whole : behind ≡ take 2 behind ++ (payload ++ rest) =
    sym (ap (λ (l : List ℕ). take 2 behind ++ l) (take-append-drop len (drop 2 behind)) ∙ take-append-drop 2 behind)
    in (
      rest,
      record {
        gate = gate;
        is_open = is_open;
        fits = (omega (arith, size, low), omega (arith, size, high));
        parts = ap (λ (l : List ℕ). gate ∷ l) (whole ∙ ap (λ (l : List ℕ). l ++ (payload ++ rest)) (sym number) ∙ sym
            (append_assoc (field_number w16 (length payload)) payload rest));
      },
    )

-- the same over all the bytes
rest_all : (gate : ℕ) (behind : List ℕ) → take (suc (length behind) - 1) behind ≡ behind
rest_all gate behind = take_all (suc (length behind) - 1) behind (omega arith)

pub broken_here : (bytes : List ℕ) → 1 ≤ length bytes → (get_or bytes 0 0 ≡ 0 → ⊥)
    → len_in (take (length bytes - 1) (drop 1 bytes)) ≡ None → IsBroken bytes
broken_here [] long is_open none = absurd (omega (arith, long))
broken_here (zero ∷ behind) long is_open none = absurd (is_open refl)
broken_here (suc n ∷ behind) long is_open none = broken_at (suc n) behind (omega arith)
    (subst (λ (l : List ℕ). len_in l ≡ None) (rest_all (suc n) behind) none)

pub frame_here : (bytes payload : List ℕ) (len n : ℕ) → 1 ≤ length bytes → (get_or bytes 0 0 ≡ 0 → ⊥)
    → ((i : ℕ) → get_or bytes i 0 < 256) → len_in (take (length bytes - 1) (drop 1 bytes)) ≡ Some len → 1 ≤ len
    → len ≤ 512
    → 2 + len ≤ length (take (length bytes - 1) (drop 1 bytes))
    → payload ≡ take n (drop 2 (take (length bytes - 1) (drop 1 bytes))) → n ≡ len
    → (rest : List ℕ) × IsFrame payload bytes rest
frame_here [] payload len n long is_open are some low high within is count = absurd (omega (arith, long))
frame_here (zero ∷ behind) payload len n long is_open are some low high within is count = absurd (is_open refl)
frame_here (suc g ∷ behind) payload len n long is_open are some low high within is count =
    let all = rest_all (suc g) behind in
    let there = frame_at (suc g) behind len (omega arith) (λ i. are (suc i))
    (subst (λ (l : List ℕ). len_in l ≡ Some len) all some) low high
    (subst (λ (l : List ℕ). 2 + len ≤ length l) all within) in
    let same : payload ≡ take len (drop 2 behind) = is ∙ ap (λ (l : List ℕ). take n (drop 2 l)) all ∙ ap
    (λ (k : ℕ). take k (drop 2 behind)) count in
    (there.0, subst (λ (l : List ℕ). IsFrame l (suc g ∷ behind) there.0) (sym same) there.1)
