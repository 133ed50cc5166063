-- Words of eight bytes decide as their bytes do, and zeros behind names decide nothing.
use Rattle.std.proofs.Common.{zero, suc, subst, get_or-drop, drop-drop, length-drop, length-take-le, take-append-drop, ◌≡◌, ℕ, List, [], ◌∷◌, ◌++◌, ◌+◌, ◌*◌, ◌-◌, ◌<◌, ◌≤◌, length, drop, replicate, get_or, true, refl, ap, sym, ◌∙◌, arith}
use Rattle.std.specs.Int.{w64, from_be_bytes}
use Rattle.std.specs.Ordering.{nat_cmp, ordering_then}
use Rattle.std.specs.declared.cmp.Ordering.{Ordering}
use Rattle.std.specs.declared.cmp.Ordering.TheVariants.{Equal}
use Rattle.std.proofs.lemmas.Bool.Decides.{nat_tests}
use Rattle.std.proofs.lemmas.List.{drop-replicate}
use Rattle.diego_names.specs.Inside.{IsNameInside, name_view}
use Rattle.diego_names.specs.Name.{is_name_byte}
use Rattle.diego_names.specs.Order.{name_order}
use Rattle.diego_names.specs.declared.name.Name.TheInside.{Inside}

-- one more byte behind two numbers
more : (a b x y : ℕ) (o : Ordering) → x < 256 → y < 256
    → ordering_then (nat_cmp a b) (ordering_then (nat_cmp x y) o)
    ≡ ordering_then (nat_cmp (a * 256 + x) (b * 256 + y)) o
more a b x y o hx hy = grind (arith, nat_tests)

-- a number by its bytes from the highest on
horner : (a b c d e f g h : ℕ) (rest : List ℕ)
    → ((((((a * 256 + b) * 256 + c) * 256 + d) * 256 + e) * 256 + f) * 256 + g) * 256 + h
    ≡ from_be_bytes w64 (a ∷ b ∷ c ∷ d ∷ e ∷ f ∷ g ∷ h ∷ rest)
horner a b c d e f g h rest = omega arith

-- the first word decides, or the bytes behind it
eight : (a b c d e f g h k l m n p q r s : ℕ) (xs ys : List ℕ)
    → b < 256 → c < 256 → d < 256 → e < 256 → f < 256 → g < 256 → h < 256
    → l < 256 → m < 256 → n < 256 → p < 256 → q < 256 → r < 256 → s < 256
    → name_order (a ∷ b ∷ c ∷ d ∷ e ∷ f ∷ g ∷ h ∷ xs) (k ∷ l ∷ m ∷ n ∷ p ∷ q ∷ r ∷ s ∷ ys)
    ≡ ordering_then (nat_cmp (from_be_bytes w64 (a ∷ b ∷ c ∷ d ∷ e ∷ f ∷ g ∷ h ∷ xs))
    (from_be_bytes w64 (k ∷ l ∷ m ∷ n ∷ p ∷ q ∷ r ∷ s ∷ ys))) (name_order xs ys)
eight a b c d e f g h k l m n p q r s xs ys hb hc hd he hf hg hh hl hm hn hp hq hr hs =
    more a k b l _ hb hl
    ∙ more _ _ c m _ hc hm
    ∙ more _ _ d n _ hd hn
    ∙ more _ _ e p _ he hp
    ∙ more _ _ f q _ hf hq
    ∙ more _ _ g r _ hg hr
    ∙ more _ _ h s _ hh hs
    ∙ (λ i. ordering_then (nat_cmp (horner a b c d e f g h xs i) (horner k l m n p q r s ys i)) (name_order xs ys))

-- bytes fit in a byte
abbrev pub AreBytes : List ℕ → Type 0
AreBytes bytes = (i : ℕ) → get_or bytes i 0 < 256

-- a list by its first eight items and the others
front : (xs : List ℕ) → 8 ≤ length xs
    → get_or xs 0 0 ∷ get_or xs 1 0 ∷ get_or xs 2 0 ∷ get_or xs 3 0 ∷ get_or xs 4 0 ∷ get_or xs 5 0 ∷ get_or xs 6 0
    ∷ get_or xs 7 0 ∷ drop 8 xs ≡ xs
front [] long = absurd (omega arith)
front (a ∷ []) long = absurd (omega arith)
front (a ∷ b ∷ []) long = absurd (omega arith)
front (a ∷ b ∷ c ∷ []) long = absurd (omega arith)
front (a ∷ b ∷ c ∷ d ∷ []) long = absurd (omega arith)
front (a ∷ b ∷ c ∷ d ∷ e ∷ []) long = absurd (omega arith)
front (a ∷ b ∷ c ∷ d ∷ e ∷ f ∷ []) long = absurd (omega arith)
front (a ∷ b ∷ c ∷ d ∷ e ∷ f ∷ g ∷ []) long = absurd (omega arith)
front (a ∷ b ∷ c ∷ d ∷ e ∷ f ∷ g ∷ h ∷ xs) long = refl

-- the first word of two lists decides, or what stands behind it
word_decides : (xs ys : List ℕ) → 8 ≤ length xs → 8 ≤ length ys → AreBytes xs → AreBytes ys
    → name_order xs ys ≡ ordering_then (nat_cmp (from_be_bytes w64 xs) (from_be_bytes w64 ys))
    (name_order (drop 8 xs) (drop 8 ys))
word_decides xs ys long long_too small small_too =
    sym (λ i. name_order (front xs long i) (front ys long_too i))
    ∙ eight (get_or xs 0 0) _ _ _ _ _ _ _ (get_or ys 0 0) _ _ _ _ _ _ _ (drop 8 xs) (drop 8 ys)
    (small 1) (small 2) (small 3) (small 4) (small 5) (small 6) (small 7)
    (small_too 1) (small_too 2) (small_too 3) (small_too 4) (small_too 5) (small_too 6) (small_too 7)
    ∙ (λ i. ordering_then (nat_cmp (from_be_bytes w64 (front xs long i)) (from_be_bytes w64 (front ys long_too i)))
    (name_order (drop 8 xs) (drop 8 ys)))

-- the bytes from a place on
small_behind : (xs : List ℕ) (n : ℕ) → AreBytes xs → AreBytes (drop n xs)
small_behind xs n small i = subst (λ b. b < 256) (sym (get_or-drop n xs i 0)) (small (n + i))

abbrev pub Eight : List ℕ → List ℕ → ℕ → Type 0
Eight xs ys n = (n + 8 ≤ length xs) × (n + 8 ≤ length ys) × AreBytes xs × AreBytes ys

-- the words at a place decide, or what stands behind them
word_at_decides : (xs ys : List ℕ) (n : ℕ) → Eight xs ys n
    → name_order (drop n xs) (drop n ys)
    ≡ ordering_then (nat_cmp (from_be_bytes w64 (drop n xs)) (from_be_bytes w64 (drop n ys)))
    (name_order (drop (n + 8) xs) (drop (n + 8) ys))
word_at_decides xs ys n h =
    word_decides (drop n xs) (drop n ys) (omega (arith, h.0, length-drop n xs)) (omega (arith, h.1, length-drop n ys))
    (small_behind xs n h.2) (small_behind ys n h.3)
    ∙ (λ i. ordering_then (nat_cmp (from_be_bytes w64 (drop n xs)) (from_be_bytes w64 (drop n ys)))
    (name_order (drop-drop 8 n xs i) (drop-drop 8 n ys i)))

apart : (a b : ℕ) (o : Ordering) → (a ≡ b → ⊥) → nat_cmp a b ≡ ordering_then (nat_cmp a b) o
apart a b o differ = grind (arith, nat_tests)

tied : (a b : ℕ) (o : Ordering) → a ≡ b → o ≡ ordering_then (nat_cmp a b) o
tied a b o same = grind (arith, nat_tests)

-- words that differ decide
pub words_differ : (xs ys : List ℕ) (n a b : ℕ) → Eight xs ys n → a ≡ from_be_bytes w64 (drop n xs)
    → b ≡ from_be_bytes w64 (drop n ys) → (a ≡ b → ⊥)
    → nat_cmp a b ≡ name_order (drop n xs) (drop n ys)
words_differ xs ys n a b h is_a is_b differ =
    apart a b (name_order (drop (n + 8) xs) (drop (n + 8) ys)) differ
    ∙ (λ i. ordering_then (nat_cmp (is_a i) (is_b i)) (name_order (drop (n + 8) xs) (drop (n + 8) ys)))
    ∙ sym (word_at_decides xs ys n h)

-- words that are equal leave it to what stands behind them
pub words_tie : (xs ys : List ℕ) (n a b : ℕ) → Eight xs ys n → a ≡ from_be_bytes w64 (drop n xs)
    → b ≡ from_be_bytes w64 (drop n ys) → a ≡ b
    → name_order (drop (n + 8) xs) (drop (n + 8) ys) ≡ name_order (drop n xs) (drop n ys)
words_tie xs ys n a b h is_a is_b same =
    tied a b (name_order (drop (n + 8) xs) (drop (n + 8) ys)) same
    ∙ (λ i. ordering_then (nat_cmp (is_a i) (is_b i)) (name_order (drop (n + 8) xs) (drop (n + 8) ys)))
    ∙ sym (word_at_decides xs ys n h)

same_list : (xs : List ℕ) → Equal ≡ name_order xs xs
same_list [] = refl
same_list (x ∷ xs) = same_list xs ∙ tied x x (name_order xs xs) refl

-- equal lists tie
pub equal_tie : (xs ys : List ℕ) → xs ≡ ys → Equal ≡ name_order xs ys
equal_tie xs ys same = same_list xs ∙ ap (name_order xs) same

behind : (xs ys : List ℕ) (end more n : ℕ) → drop end xs ≡ drop end ys → end + more ≡ n
    → Equal ≡ name_order (drop n xs) (drop n ys)
behind xs ys end more n same is =
    equal_tie (drop n xs) (drop n ys)
    (sym (drop-drop more end xs ∙ ap (λ k. drop k xs) is) ∙ ap (drop more) same ∙ drop-drop more end ys ∙ ap
    (λ k. drop k ys) is)

-- where two lists have one rest, no later place tells them apart
pub rests_tie : (xs ys : List ℕ) (end n : ℕ) → drop end xs ≡ drop end ys → end ≤ n
    → Equal ≡ name_order (drop n xs) (drop n ys)
rests_tie xs ys end n same le = behind xs ys end (n - end) n same (omega arith)

-- zeros behind two names decide nothing
pub order_of_padded : (xs ys : List ℕ) (m n : ℕ) → ((i : ℕ) → i < length xs → 0 < get_or xs i 0)
    → ((i : ℕ) → i < length ys → 0 < get_or ys i 0)
    → length xs + m ≡ length ys + n → name_order (xs ++ replicate m 0) (ys ++ replicate n 0) ≡ name_order xs ys
order_of_padded [] [] m n above above_too long = sym (equal_tie (replicate m 0) (replicate n 0)
    (ap (λ k. replicate {A = ℕ} k 0) (same m n long)))
  where
    same : (m n : ℕ) → 0 + m ≡ 0 + n → m ≡ n
    same m n e = omega arith
order_of_padded [] (y ∷ ys) zero n above above_too long = absurd (omega arith)
order_of_padded [] (y ∷ ys) (suc m) n above above_too long = grind (arith, nat_tests, above_too 0 (omega arith))
order_of_padded (x ∷ xs) [] m zero above above_too long = absurd (omega arith)
order_of_padded (x ∷ xs) [] m (suc n) above above_too long = grind (arith, nat_tests, above 0 (omega arith))
order_of_padded (x ∷ xs) (y ∷ ys) m n above above_too long =
    ap (ordering_then (nat_cmp x y)) (order_of_padded xs ys m n (λ i lt. above (suc i) (omega arith))
    (λ i lt. above_too (suc i) (omega arith)) (omega arith))

above_zero : (b : ℕ) → is_name_byte b ≡ true → 0 < b
above_zero b is = grind (arith, nat_tests)

-- no byte of a name is 0
above_zeros : (a : Inside) → IsNameInside a → (i : ℕ) → i < length (name_view a) → 0 < get_or (name_view a) i 0
above_zeros a inside i lt = above_zero (get_or (name_view a) i 0) (inside.name.each i 0 lt)

-- the array is the name and zeros
as_padded : (a : Inside) → IsNameInside a → name_view a ++ replicate (80 - a.len) 0 ≡ a.bytes
as_padded a inside = rw (← inside.rest) (take-append-drop a.len a.bytes)

-- names stand in the order of the arrays that they are kept in
pub order_inside : (a b : Inside) → IsNameInside a → IsNameInside b
    → name_order a.bytes b.bytes ≡ name_order (name_view a) (name_view b)
order_inside a b inside inside_too =
    sym (λ i. name_order (as_padded a inside i) (as_padded b inside_too i))
    ∙ order_of_padded (name_view a) (name_view b) (80 - a.len) (80 - b.len) (above_zeros a inside)
    (above_zeros b inside_too)
    (omega (
      arith,
      inside.whole,
      inside.len,
      inside_too.whole,
      inside_too.len,
      length-take-le a.len a.bytes,
      length-take-le b.len b.bytes,
    ))

zeros_from : (a : Inside) (end more : ℕ) → IsNameInside a → a.len + more ≡ end
    → drop end a.bytes ≡ replicate (80 - end) 0
zeros_from a end more inside is =
    ap (λ k. drop k a.bytes) (sym is) ∙ sym (drop-drop more a.len a.bytes) ∙ ap
    (drop more) inside.rest ∙ drop-replicate more (80 - a.len) 0
    ∙ ap (λ k. replicate k 0) (less (80 - a.len) more is)
  where
    less : (n : ℕ) (more : ℕ) → a.len + more ≡ end → 80 - a.len - more ≡ 80 - end
    less n more is = omega arith

-- behind a name are zeros
pub zeros_behind : (a : Inside) (end : ℕ) → IsNameInside a → a.len ≤ end → drop end a.bytes ≡ replicate (80 - end) 0
zeros_behind a end inside le = zeros_from a end (end - a.len) inside (omega arith)
