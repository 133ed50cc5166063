-- One cell more of a tag goes.
use Rattle.std.proofs.Common.{◌≡◌, ℕ, zero, suc, ◌<◌, ◌≤◌, ◌+◌, ◌==◌, true, false, if◌then◌else◌, List, [], ◌∷◌, ◌++◌, Option, length, drop, get_or, refl, sym, ap, ◌∙◌, arith}
use Rattle.std.proofs.lemmas.Bool.{ne_eqb}
use Rattle.std.proofs.lemmas.List.{drop_more}
use Rattle.forecast_records.specs.declared.cases.Turn.{Turn}
use Rattle.what_if.specs.Plans.{planned}
use Rattle.what_if.specs.declared.site.Site.{Site}
use Rattle.loss_cases.specs.Cases.{can_go}
use Rattle.loss_cases.specs.Turns.{least_from, least_survived, left_by, one_too_many, turn_from}
use Rattle.loss_cases.specs.declared.cells.TaggedCell.{TaggedCell}

module _ (site : Site) (tag : Option (List ℕ)) (n : ℕ) (gone : List (List ℕ)) (cells : List TaggedCell) (i : ℕ)
    (c : TaggedCell) (low : i < length cells) (is : c ≡ get_or cells i c) where
  next : turn_from site tag n gone (drop i cells) ≡ turn_from site tag n gone (c ∷ drop (i + 1) cells)
  next = ap (turn_from site tag n gone) (drop_more cells i c low ∙ ap (λ x. x ∷ drop (i + 1) cells) (sym is))

  pub turn_goes : can_go site (gone ++ c.cell ∷ []) ≡ true
      → turn_from site tag n (gone ++ c.cell ∷ []) (drop (i + 1) cells) ≡ turn_from site tag n gone (drop i cells)
  turn_goes goes = sym (next ∙ ap (λ b. if b then turn_from site tag n (gone ++ c.cell ∷ [])
      (drop (i + 1) cells) else one_too_many tag n (length gone) (gone ++ c.cell ∷ [])
      (left_by (planned site (gone ++ c.cell ∷ [])))) goes)

  pub turn_stops : can_go site (gone ++ c.cell ∷ []) ≡ false
      → one_too_many tag n (length gone) (gone ++ c.cell ∷ []) (left_by (planned site (gone ++ c.cell ∷ [])))
      ≡ turn_from site tag n gone (drop i cells)
  turn_stops stays = sym (next ∙ ap (λ b. if b then turn_from site tag n (gone ++ c.cell ∷ [])
      (drop (i + 1) cells) else one_too_many tag n (length gone) (gone ++ c.cell ∷ [])
      (left_by (planned site (gone ++ c.cell ∷ [])))) stays)

pub least_of_first : (turns : List Turn) (t : Turn) → 0 < length turns → t ≡ get_or turns 0 t
    → least_from t.survived turns ≡ least_survived turns
least_of_first [] t low is = absurd (omega arith)
least_of_first (x ∷ xs) t low is = ap (λ (u : Turn). least_from u.survived (x ∷ xs)) is

-- none is left over where the number is 0
pub none_left : (n : ℕ) → n ≤ 0 → (n == 0) ≡ true
none_left zero h = refl
none_left (suc n) h = absurd (omega arith)

pub some_left : (n : ℕ) → 0 < n → (n == 0) ≡ false
some_left n h = ne_eqb n 0 (omega arith)
