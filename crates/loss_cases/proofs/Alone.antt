-- What cells do that go each alone, as it is tried.
use Rattle.std.proofs.Common.{◌≡◌, ℕ, ◌+◌, ◌<◌, Bool, true, false, cond, List, [], ◌∷◌, ◌++◌, length, map, filter, take, drop, get_or, refl, sym, ap, ◌∙◌, append_assoc}
use Rattle.std.proofs.lemmas.List.{append-nil, map-append}
use Rattle.forecast_records.specs.declared.cases.Case.{Case}
use Rattle.what_if.specs.declared.site.Site.{Site}
use Rattle.what_if.proofs.Lists.{drop_next, filter_next, map_next}
use Rattle.loss_cases.specs.Cases.{alone, alone_case, can_go_alone, case_of, each_pair, pairs_in, pairs_with}
use Rattle.loss_cases.specs.Cells.{by_name, tagged_cells}
use Rattle.loss_cases.specs.declared.cells.TaggedCell.{TaggedCell}
use Rattle.loss_cases.specs.declared.losses.Loss.{Loss}

-- one cell more with those behind it
pub pairs_next : (cells : List TaggedCell) (i : ℕ) (c : TaggedCell) (losses more : List Loss) → i < length cells
    → c ≡ get_or cells i c → more ≡ pairs_with c (drop (i + 1) cells)
    → (losses ++ more) ++ pairs_in (drop (i + 1) cells) ≡ losses ++ pairs_in (drop i cells)
pairs_next cells i c losses more low at is =
    append_assoc losses more (pairs_in (drop (i + 1) cells))
    ∙ ap (λ (xs : List Loss). losses ++ (xs ++ pairs_in (drop (i + 1) cells))) is
    ∙ ap (λ (cs : List TaggedCell). losses ++ pairs_in cs) (sym (drop_next cells i c low at))

alone_cases : (site : Site) (cells : List TaggedCell) → map (case_of site) (alone (map (λ c. c.cell) cells))
    ≡ map (alone_case site) cells
alone_cases site [] = refl
alone_cases site (c ∷ cs) = ap (λ (xs : List Case). alone_case site c ∷ xs) (alone_cases site cs)

-- each cell that told its state, and then the pairs
pub pairs_behind : (site : Site) (cases : List Case) → (cases ++ map (alone_case site) (by_name (tagged_cells site)))
    ++ map (case_of site) (pairs_in (can_go_alone site)) ≡ cases ++ map (case_of site) (each_pair site)
pairs_behind site cases =
    let cells : List TaggedCell = by_name (tagged_cells site) in
    append_assoc cases (map (alone_case site) cells) (map (case_of site) (pairs_in (can_go_alone site)))
    ∙ ap (λ (xs : List Case). cases ++ (xs ++ map (case_of site) (pairs_in (can_go_alone site))))
    (sym (alone_cases site cells))
    ∙ ap (λ (xs : List Case). cases ++ xs) (sym (map-append (case_of site) (alone (map (λ c. c.cell) cells))
    (pairs_in (can_go_alone site))))

-- one loss more is tried
pub tried_next : {X : Type 0} (f : X → Case) (cases now next : List Case) (xs : List X) (i : ℕ) (x : X) (case : Case)
    → i < length xs → x ≡ get_or xs i x → now ≡ cases ++ map f (take i xs) → case ≡ f x → next ≡ now ++ case ∷ []
    → next ≡ cases ++ map f (take (i + 1) xs)
tried_next f cases now next xs i x case low at before is pushed =
    pushed
    ∙ ap (λ (ys : List Case). ys ++ case ∷ []) before
    ∙ append_assoc cases (map f (take i xs)) (case ∷ [])
    ∙ ap (λ (c : Case). cases ++ (map f (take i xs) ++ c ∷ [])) is
    ∙ ap (λ (ys : List Case). cases ++ ys) (sym (map_next f xs i x low at))

module _ (p : TaggedCell → Bool) (cells : List TaggedCell) (i : ℕ) (c : TaggedCell) (now next : List TaggedCell)
    (low : i < length cells) (at : c ≡ get_or cells i c) (before : now ≡ filter p (take i cells)) where
  one_more : (b : Bool) → p c ≡ b → next ≡ now ++ cond b (c ∷ []) [] → next ≡ filter p (take (i + 1) cells)
  one_more b is pushed =
      pushed
      ∙ ap (λ (cs : List TaggedCell). cs ++ cond b (c ∷ []) []) before
      ∙ ap (λ (a : Bool). filter p (take i cells) ++ cond a (c ∷ []) []) (sym is)
      ∙ sym (filter_next p cells i c low at)

  -- a cell that can go joins those that can
  pub able_joined : p c ≡ true → next ≡ now ++ c ∷ [] → next ≡ filter p (take (i + 1) cells)
  able_joined is pushed = one_more true is pushed

  -- a cell that can't go doesn't
  pub able_stays : p c ≡ false → next ≡ now → next ≡ filter p (take (i + 1) cells)
  able_stays is same = one_more false is (same ∙ sym (append-nil now))
