-- A truth value is a field.
use Rattle.std.proofs.Common.{◌≡◌, ℕ, zero, suc, ◌<◌, Bool, true, false, List, [], ◌∷◌, ◌++◌, length, take, refl, sym, ◌∙◌, arith}
use Rattle.std.proofs.lemmas.Bool.{ne_eqb}
use Rattle.wire_fields.specs.Field.{field_truth}
use Rattle.wire_fields.specs.Front.{Front, Holds, Ends, Bad, truth_front}
use Rattle.wire_fields.specs.Laws.{IsField}
use Rattle.wire_fields.specs.Reading.{truth_at}
use Rattle.wire_fields.proofs.Fronts.{Takes, held, IsField-from_front}

truth_spelled : (bytes : List ℕ) (b : Bool) (n : ℕ) → truth_front bytes ≡ Holds b n
    → Takes (λ _. Unit {0}) field_truth bytes b n
unfolding field_truth
truth_spelled [] b n e = absurd cc
truth_spelled (zero ∷ rest) false n e = record { rest = rest; parts = refl; count = cc; fits = tt }
truth_spelled (zero ∷ rest) true n e = let apart : false ≡ true = (held false true 1 n e).0 in absurd cc
truth_spelled (suc zero ∷ rest) true n e = record { rest = rest; parts = refl; count = cc; fits = tt }
truth_spelled (suc zero ∷ rest) false n e = let apart : true ≡ false = (held true false 1 n e).0 in absurd cc
truth_spelled (suc (suc c) ∷ rest) b n e =
    let bad : truth_front (suc (suc c) ∷ rest) ≡ Bad = rw
    (ne_eqb (suc (suc c)) 0 (λ e. absurd (omega arith)), ne_eqb (suc (suc c)) 1 (λ e. absurd (omega arith))) refl in
    let apart : ◌≡◌ {A = Front Bool} Bad (Holds b n) = sym bad ∙ e in
    absurd cc

truth_again : (b : Bool) (rest : List ℕ) → truth_front (field_truth b ++ rest) ≡ Holds b (length (field_truth b))
unfolding field_truth
truth_again false rest = refl
truth_again true rest = refl

truth_cut : (b : Bool) (k : ℕ) → k < length (field_truth b) → truth_front (take k (field_truth b)) ≡ Ends
unfolding field_truth
truth_cut b zero lt = refl
truth_cut b (suc k) lt = absurd (omega arith)

pub IsField-truth : IsField (λ _. Unit {0}) field_truth truth_at
unfolding truth_at
IsField-truth = IsField-from_front (record {
  spelled = λ bytes b n ib e. truth_spelled bytes b n e;
  again = λ b rest fits. truth_again b rest;
  cut = λ b k fits lt. truth_cut b k lt;
})
