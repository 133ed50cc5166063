-- A number is a field.
use Rattle.std.proofs.Common.{◌≡◌, ℕ, ◌%◌, ◌^◌, ◌<◌, ◌≤◌, true, false, ltb, List, [], ◌∷◌, ◌++◌, length, take, drop, refl, sym, ap, ◌∙◌, arith}
use Rattle.std.specs.Int.{Width, w8, w16, w32, w64, byte_len, from_be_bytes, to_be_bytes}
use Rattle.std.proofs.lemmas.Bool.{ltb-false, le-ltb, lt-ltb}
use Rattle.std.proofs.lemmas.List.{take_at, take-append-drop, length-append, length-take}
use Rattle.std.proofs.lemmas.Nat.{be_bytes_2, be_bytes_4, be_bytes_8, from_be_bytes-to_be_bytes_2, from_be_bytes-to_be_bytes_4, from_be_bytes-to_be_bytes_8}
use Rattle.wire_fields.specs.Field.{field_number}
use Rattle.wire_fields.specs.Front.{Holds, number_front}
use Rattle.wire_fields.specs.Laws.{IsBytes, IsField}
use Rattle.wire_fields.specs.Reading.{number_at}
use Rattle.wire_fields.proofs.Places.{IsBytes-take}
use Rattle.wire_fields.proofs.Fronts.{IsFront, not_ended, held, IsField-from_front}

-- what is used of a width
pub record IsWide (w : Width) (limit : ℕ) : Type 0 where
  pub len : (n : ℕ) → length (to_be_bytes w n) ≡ byte_len w
  pub back : (bytes : List ℕ) → length bytes ≡ byte_len w → IsBytes bytes
      → to_be_bytes w (from_be_bytes w bytes) ≡ bytes
  pub again : (n : ℕ) → n < limit → from_be_bytes w (to_be_bytes w n) ≡ n
  pub below : (bytes : List ℕ) → IsBytes bytes → from_be_bytes w bytes < limit

one_byte : (bytes : List ℕ) → length bytes ≡ 1 → IsBytes bytes → to_be_bytes w8 (from_be_bytes w8 bytes) ≡ bytes
one_byte [] len fits = absurd (omega arith)
one_byte (b ∷ []) len fits = let e : b % 256 ≡ b = omega (arith, fits 0) in ap (λ (x : ℕ). x ∷ []) e
one_byte (b ∷ c ∷ bytes) len fits = absurd (omega arith)

wide8 : IsWide w8 (2 ^ 8)
wide8 = record {
  len = λ n. refl;
  back = one_byte;
  again = λ n lt. let e : n % 256 ≡ n = omega arith in e;
  below = λ bytes fits. fits 0;
}

wide16 : IsWide w16 (2 ^ 16)
wide16 = record {
  len = λ n. refl;
  back = λ bytes len fits. be_bytes_2 bytes _ len fits refl;
  again = λ n lt. from_be_bytes-to_be_bytes_2 n lt;
  below = λ bytes fits. omega (arith, fits 0, fits 1);
}

wide32 : IsWide w32 (2 ^ 32)
wide32 = record {
  len = λ n. refl;
  back = λ bytes len fits. be_bytes_4 bytes _ len fits refl;
  again = λ n lt. from_be_bytes-to_be_bytes_4 n lt;
  below = λ bytes fits. omega (arith, fits 0, fits 1, fits 2, fits 3);
}

wide64 : IsWide w64 (2 ^ 64)
wide64 = record {
  len = λ n. refl;
  back = λ bytes len fits. be_bytes_8 bytes _ len fits refl;
  again = λ n lt. from_be_bytes-to_be_bytes_8 n lt;
  below = λ bytes fits. omega (arith, fits 0, fits 1, fits 2, fits 3, fits 4, fits 5, fits 6, fits 7);
}

IsFront-number : (w : Width) (limit : ℕ) → IsWide w limit → IsFront (λ n. n < limit) (field_number w) (number_front w)
unfolding field_number
IsFront-number w limit wide = record {
  spelled = λ bytes n count ib e.
      let len = byte_len w in
      let front : List ℕ = take len bytes in
      let open_ = not_ended (ltb (length bytes) len) (Holds (from_be_bytes w front) len) n count e in
      let same = held (from_be_bytes w front) n len count open_.1 in
      let long : len ≤ length bytes = ltb-false _ _ open_.0 in
      let ib-front = IsBytes-take len bytes ib in
      let front-is : to_be_bytes w n ≡ front = rw (← same.0)
      (wide.back front (omega (arith, length-take len bytes)) ib-front) in
      record {
        rest = drop len bytes;
        parts = rw front-is (sym (take-append-drop len bytes));
        count = sym same.1 ∙ sym (wide.len n);
        fits = rw (← same.0) (wide.below front ib-front);
      };
  again = λ n rest lt.
      let len = wide.len n in
      let long : ltb (length (to_be_bytes w n ++ rest)) (byte_len w) ≡ false =
      le-ltb _ _ (omega (arith, length-append (to_be_bytes w n) rest)) in
      rw (long, take_at (to_be_bytes w n) rest (byte_len w) len, wide.again n lt, len) refl;
  cut = λ n k lt below.
      let len = wide.len n in
      let short : ltb (length (take k (to_be_bytes w n))) (byte_len w) ≡ true =
      lt-ltb _ _ (omega (arith, length-take k (to_be_bytes w n))) in
      rw short refl;
}

pub IsField-number : (w : Width) (limit : ℕ) → IsWide w limit → IsField (λ n. n < limit) (field_number w) (number_at w)
unfolding number_at
IsField-number w limit wide = IsField-from_front (IsFront-number w limit wide)

pub IsField-u8 : IsField (λ n. n < 2 ^ 8) (field_number w8) (number_at w8)
IsField-u8 = IsField-number w8 (2 ^ 8) wide8

pub IsField-u16 : IsField (λ n. n < 2 ^ 16) (field_number w16) (number_at w16)
IsField-u16 = IsField-number w16 (2 ^ 16) wide16

pub IsField-u32 : IsField (λ n. n < 2 ^ 32) (field_number w32) (number_at w32)
IsField-u32 = IsField-number w32 (2 ^ 32) wide32

pub IsField-u64 : IsField (λ n. n < 2 ^ 64) (field_number w64) (number_at w64)
IsField-u64 = IsField-number w64 (2 ^ 64) wide64
