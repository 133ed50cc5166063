-- What is told to survive does, and one loss more doesn't.
use Rattle.std.proofs.Common.{◌≡◌, ℕ, ◌<◌, ◌≤◌, ◌+◌, Bool, true, false, if◌then◌else◌, List, [], ◌∷◌, ◌++◌, Option, length, map, take, inl, inr, refl, sym, ap, ◌∙◌, arith, append_assoc}
use Rattle.std.proofs.lemmas.List.{length-append, take_at}
use Rattle.std.proofs.lemmas.Bool.{cases_lt}
use Rattle.forecast_records.specs.declared.cases.Turn.{Turn}
use Rattle.what_if.specs.Plans.{planned}
use Rattle.what_if.specs.declared.site.Site.{Site}
use Rattle.loss_cases.specs.Cases.{can_go}
use Rattle.loss_cases.specs.Turns.{Survives, left_by, one_too_many, turn_from, turn_of}
use Rattle.loss_cases.specs.declared.cells.TaggedCell.{TaggedCell}

-- the same behind cells that are gone
record SurvivesBehind (site : Site) (gone : List (List ℕ)) (cells : List (List ℕ)) (count : ℕ) : Type 0 where
  low : length gone ≤ count
  within : count ≤ length gone + length cells
  each : (j : ℕ) → length gone < j → j ≤ count → can_go site (take j (gone ++ cells)) ≡ true
  next : count < length gone + length cells → can_go site (take (count + 1) (gone ++ cells)) ≡ false

-- the first cells up to one more are these
one_more : (gone cells : List (List ℕ)) (c : List ℕ) (j : ℕ) → j ≡ length gone + 1
    → take j (gone ++ c ∷ cells) ≡ gone ++ c ∷ []
one_more gone cells c j e =
    ap (take j) (sym (append_assoc gone (c ∷ []) cells)) ∙ take_at (gone ++ c ∷ []) cells j
    (length-append gone (c ∷ []) ∙ sym e)

none_left : (site : Site) (gone : List (List ℕ)) → SurvivesBehind site gone [] (length gone)
none_left site gone = record {
  low = omega arith;
  within = omega arith;
  each = λ j a b. absurd (omega arith);
  next = λ a. absurd (omega arith);
}

stopped : (site : Site) (gone cells : List (List ℕ)) (c : List ℕ) → can_go site (gone ++ c ∷ []) ≡ false
    → SurvivesBehind site gone (c ∷ cells) (length gone)
stopped site gone cells c stays = record {
  low = omega arith;
  within = omega arith;
  each = λ j a b. absurd (omega arith);
  next = λ a. ap (can_go site) (one_more gone cells c (length gone + 1) refl) ∙ stays;
}

went : (site : Site) (gone cells : List (List ℕ)) (c : List ℕ) (count : ℕ) → can_go site (gone ++ c ∷ []) ≡ true
    → SurvivesBehind site (gone ++ c ∷ []) cells count → SurvivesBehind site gone (c ∷ cells) count
went site gone cells c count goes h =
    let more : length (gone ++ c ∷ []) ≡ length gone + 1 = length-append gone (c ∷ []) in
    let same : (gone ++ c ∷ []) ++ cells ≡ gone ++ c ∷ cells = append_assoc gone (c ∷ []) cells in
    record {
      low = omega (arith, h.low, more);
      within = omega (arith, h.within, more);
      each = λ j a b. elim (cases_lt (length gone + 1) j) as (λ w. can_go site (take j (gone ++ c ∷ cells)) ≡ true) [
        | (inl l) ↦ ap (λ xs. can_go site (take j xs)) (sym same) ∙ h.each j (omega (arith, more, l)) b
        | (inr l) ↦ ap (can_go site) (one_more gone cells c j (omega (arith, a, l))) ∙ goes
      ];
      next = λ a. ap (λ xs. can_go site (take (count + 1) xs)) (sym same) ∙ h.next (omega (arith, more, a));
    }

-- what a cell that goes, or one that is too much, leaves to the rest
survives_if : (site : Site) (tag : Option (List ℕ)) (n : ℕ) (gone cells : List (List ℕ)) (c : List ℕ) (rest : Turn)
    (b : Bool) → can_go site (gone ++ c ∷ []) ≡ b → (b ≡ true
    → SurvivesBehind site (gone ++ c ∷ []) cells rest.survived)
    → SurvivesBehind site gone (c ∷ cells) (if b then rest else one_too_many tag n (length gone) (gone ++ c ∷ [])
    (left_by (planned site (gone ++ c ∷ [])))).survived
survives_if site tag n gone cells c rest true is h = went site gone cells c rest.survived is (h refl)
survives_if site tag n gone cells c rest false is h = stopped site gone cells c is

survives_from : (site : Site) (tag : Option (List ℕ)) (n : ℕ) (gone : List (List ℕ)) (cells : List TaggedCell)
    → SurvivesBehind site gone (map (λ c. c.cell) cells) (turn_from site tag n gone cells).survived
survives_from site tag n gone [] = none_left site gone
survives_from site tag n gone (c ∷ cs) =
    survives_if site tag n gone (map (λ c. c.cell) cs) c.cell (turn_from site tag n (gone ++ c.cell ∷ []) cs)
    (can_go site (gone ++ c.cell ∷ [])) refl
    (λ e. survives_from site tag n (gone ++ c.cell ∷ []) cs)

pub turns_survive : (site : Site) (tag : Option (List ℕ)) (cells : List TaggedCell)
    → Survives site (map (λ c. c.cell) cells) (turn_of site tag cells).survived
turns_survive site tag cells =
    let h = survives_from site tag (length cells) [] cells in
    record { within = omega (arith, h.within); each = λ j a b. h.each j a b; next = λ a. h.next (omega (arith, a)) }
