-- One draw more, and one text more.
use Rattle.std.proofs.Common.{◌≡◌, ◌∙◌, ℕ, zero, suc, ◌+◌, ◌*◌, List, ◌++◌, refl, sym, ap, add-one, arith, append_assoc}
use Rattle.std.proofs.lemmas.List.{append-nil}
use Rattle.scenario_maker.specs.Draws.{behind, next_number}
use Rattle.scenario_maker.specs.Generated.{each_below}

-- before the first draw
pub behind_none : (x : ℕ) → behind 0 x ≡ x
unfolding behind
behind_none x = refl

-- behind one draw more
pub behind_more : (n x : ℕ) → behind (n + 1) x ≡ next_number (behind n x)
unfolding behind
behind_more n x = ap (λ (k : ℕ). behind k x) (add-one n)

-- so many draws behind as many others
pub behind_behind : (m n x : ℕ) → behind m (behind n x) ≡ behind (m + n) x
unfolding behind
behind_behind zero n x = let e : n ≡ 0 + n = omega arith in ap (λ (k : ℕ). behind k x) e
behind_behind (suc m) n x =
    let e : suc (m + n) ≡ suc m + n = omega arith in
    ap next_number (behind_behind m n x) ∙ ap (λ (k : ℕ). behind k x) e

-- behind two draws more
pub behind_both : (n x : ℕ) → behind (n + 2) x ≡ next_number (next_number (behind n x))
behind_both n x =
    let e : n + 2 ≡ n + 1 + 1 = omega arith in
    ap (λ (k : ℕ). behind k x) e ∙ behind_more (n + 1) x ∙ ap next_number (behind_more n x)

-- behind two draws more, of twice as many
pub behind_pair : (n x : ℕ) → behind (2 * (n + 1)) x ≡ behind (2 * n + 2) x
behind_pair n x = let e : 2 * (n + 1) ≡ 2 * n + 2 = omega arith in ap (λ (k : ℕ). behind k x) e

-- before the first text
pub text_before : (text : ℕ → List ℕ) (old : List ℕ) → old ≡ old ++ each_below 0 text
unfolding each_below
text_before text old = sym (append-nil old)

-- behind one text more
pub text_behind : (n : ℕ) (text : ℕ → List ℕ) (old now more : List ℕ)
    → now ≡ old ++ each_below n text → more ≡ now ++ text n → more ≡ old ++ each_below (n + 1) text
unfolding each_below
text_behind n text old now more before adds =
    adds ∙ ap (λ (l : List ℕ). l ++ text n) before ∙ append_assoc old (each_below n text) (text n)
    ∙ ap (λ (k : ℕ). old ++ each_below k text) (sym (add-one n))

-- three texts, each put behind the one before it
pub three_more : (old a b c one two three : List ℕ) → one ≡ old ++ a → two ≡ one ++ b → three ≡ two ++ c
    → three ≡ old ++ (a ++ (b ++ c))
three_more old a b c one two three first second third =
    third ∙ ap (λ (l : List ℕ). l ++ c) (second ∙ ap (λ (l : List ℕ). l ++ b) first)
    ∙ append_assoc (old ++ a) b c ∙ append_assoc old a (b ++ c)

-- four texts, each put behind the one before it
pub four_more : (old a b c d one two three four : List ℕ) → one ≡ old ++ a → two ≡ one ++ b → three ≡ two ++ c
    → four ≡ three ++ d
    → four ≡ old ++ (a ++ (b ++ (c ++ d)))
four_more old a b c d one two three four first second third fourth =
    three_more old a b (c ++ d) one two four first second
    (fourth ∙ ap (λ (l : List ℕ). l ++ d) third ∙ append_assoc two c d)
