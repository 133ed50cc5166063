-- The payloads of an area are one list.
use Rattle.std.proofs.Common.{◌≡◌, ℕ, ◌<◌, ◌^◌, List, [], ◌∷◌, ◌++◌, length, take, drop, refl, sym, ap, ◌∙◌, arith, append_assoc, take_at, drop_at}
use Rattle.std.specs.Int.{w16, from_be_bytes}
use Rattle.std.proofs.lemmas.Nat.{from_be_bytes-to_be_bytes_2}
use Rattle.wire_fields.specs.Field.{field_number}
use Rattle.wire_fields.proofs.Public.{length-field_number}
use Rattle.bbs_journal.specs.Frames.{IsPayload, frame_spelled, Whole}
use Rattle.bbs_journal.specs.Areas.{Begins, AreOne}

-- two lists that begin with parts of one length
pub split : (a b r s : List ℕ) → length a ≡ length b → a ++ r ≡ b ++ s → (a ≡ b) × (r ≡ s)
split a b r s len e = (
  sym (take_at a r (length a) refl) ∙ ap (take (length a)) e ∙ take_at b s (length a) (sym len),
  sym (drop_at a r (length a) refl) ∙ ap (drop (length a)) e ∙ drop_at b s (length a) (sym len),
)

number_one : (m n : ℕ) → m < 2 ^ 16 → n < 2 ^ 16 → field_number w16 m ≡ field_number w16 n → m ≡ n
unfolding field_number
number_one m n m_fits n_fits e = sym (from_be_bytes-to_be_bytes_2 m m_fits) ∙ ap
    (from_be_bytes w16) e ∙ from_be_bytes-to_be_bytes_2 n n_fits

-- a spelled payload says where it ends
pub spelled_one : (a b r s : List ℕ) → IsPayload a → IsPayload b → frame_spelled a ++ r ≡ frame_spelled b ++ s
    → (a ≡ b) × (r ≡ s)
spelled_one a b r s a_fits b_fits e =
    let m = field_number w16 (length a) in
    let n = field_number w16 (length b) in
    let lengths : length m ≡ length n = length-field_number w16 (length a) ∙ sym (length-field_number w16 (length b)) in
    let apart : m ++ (a ++ r) ≡ n ++ (b ++ s) = sym (append_assoc m a r) ∙ e ∙ append_assoc n b s in
    let numbers = split m n (a ++ r) (b ++ s) lengths apart in
    let same : length a ≡ length b = number_one (length a) (length b) (omega (arith, a_fits.1))
    (omega (arith, b_fits.1)) numbers.0 in
    split a b r s same numbers.1

behind : (x y : ℕ) (a b : List ℕ) → x ∷ a ≡ y ∷ b → (x ≡ y) × (a ≡ b)
behind x y a b e = (cc, cc)

whole_one : (a b : List (List ℕ)) (f g r s : List ℕ) → Whole a f → Whole b g → f ++ 0 ∷ r ≡ g ++ 0 ∷ s → a ≡ b
whole_one [] [] f g r s whole other e = refl
whole_one [] (y ∷ ys) f g r s whole (rest, frame, more) e =
    let shut : 0 ∷ r ≡ frame.gate ∷ ((frame_spelled y ++ rest) ++ 0 ∷ s) =
    sym (ap (λ (l : List ℕ). l ++ 0 ∷ r) whole) ∙ e ∙ ap (λ (l : List ℕ). l ++ 0 ∷ s) frame.parts in
    let same = behind 0 frame.gate r ((frame_spelled y ++ rest) ++ 0 ∷ s) shut in
    absurd (omega (arith, same.0, frame.is_open))
whole_one (x ∷ xs) [] f g r s (rest, frame, more) whole e =
    let shut : 0 ∷ s ≡ frame.gate ∷ ((frame_spelled x ++ rest) ++ 0 ∷ r) =
    sym (ap (λ (l : List ℕ). l ++ 0 ∷ s) whole) ∙ sym e ∙ ap (λ (l : List ℕ). l ++ 0 ∷ r) frame.parts in
    let same = behind 0 frame.gate s ((frame_spelled x ++ rest) ++ 0 ∷ r) shut in
    absurd (omega (arith, same.0, frame.is_open))
whole_one (x ∷ xs) (y ∷ ys) f g r s (rest, frame, more) (rest', frame', more') e =
    let both : frame.gate ∷ ((frame_spelled x ++ rest) ++ 0 ∷ r) ≡ frame'.gate ∷ ((frame_spelled y ++ rest') ++ 0 ∷ s) =
    sym (ap (λ (l : List ℕ). l ++ 0 ∷ r) frame.parts) ∙ e ∙ ap (λ (l : List ℕ). l ++ 0 ∷ s) frame'.parts in
    let tails = behind frame.gate frame'.gate ((frame_spelled x ++ rest) ++ 0 ∷ r)
    ((frame_spelled y ++ rest') ++ 0 ∷ s) both in
    let apart = sym (append_assoc (frame_spelled x) rest (0 ∷ r)) ∙ tails.1 ∙ append_assoc (frame_spelled y) rest'
    (0 ∷ s) in
    let parts = spelled_one x y (rest ++ 0 ∷ r) (rest' ++ 0 ∷ s) frame.fits frame'.fits apart in
    let others : xs ≡ ys = whole_one xs ys rest rest' r s more more' parts.1 in
    ap (λ (p : List ℕ). p ∷ xs) parts.0 ∙ ap (λ (l : List (List ℕ)). y ∷ l) others

behind_head : (head frames bytes : List ℕ) (b : Begins (head ++ frames ++ 0 ∷ []) bytes)
    → bytes ≡ head ++ (frames ++ 0 ∷ b.rest)
behind_head head frames bytes b = b.parts ∙ append_assoc (head ++ frames) (0 ∷ []) b.rest ∙ append_assoc head frames
    (0 ∷ b.rest)

pub are_one : AreOne
are_one head bytes a b first second =
    let rest : List ℕ = first.frames ++ 0 ∷ first.begins.rest in
    let other : List ℕ = second.frames ++ 0 ∷ second.begins.rest in
    let same = split head head rest other refl (sym (behind_head head first.frames bytes first.begins) ∙ behind_head
    head second.frames bytes second.begins) in
    whole_one a b first.frames second.frames first.begins.rest second.begins.rest first.whole second.whole same.1
