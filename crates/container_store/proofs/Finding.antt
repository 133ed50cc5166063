-- The containers of a job, and all, one after the other.
use Rattle.std.proofs.Common.{◌≡◌, ℕ, ◌<◌, ◌≤◌, Bool, true, false, cond, T, List, [], ◌∷◌, Option, Some, None, refl, sym, ap, subst, ◌∙◌, arith}
use Rattle.std.specs.BTreeMap.{is_at}
use Rattle.std.specs.FinMap.Entries.{below_all}
use Rattle.std.specs.List.{find}
use Rattle.std.specs.Map.{lookup, values_of}
use Rattle.std.specs.Option.{unwrap_or}
use Rattle.std.specs.Ordering.{nat_cmp, is_lt}
use Rattle.cell_records.specs.declared.container.Container.{Container}
use Rattle.row_tables.specs.Table.{keyed, IsRising}
use Rattle.row_tables.proofs.Public.{less_from_test, first_of_both, second_of_both, below_rest, IsRising-tail}
use Rattle.container_store.specs.Inside.{AreNumbered}
use Rattle.container_store.specs.Store.{number_of}
use Rattle.container_store.proofs.Numbered.{Entries, at_itself, here_number, not_here, lt_from_less}

-- what the look-up at a number finds
abbrev pub at : ℕ → Entries → Option Container
at n es = lookup (is_at (nat_cmp n)) es

module _ (n : ℕ) (c : Container) (cs : List Container)
    (b : T (below_all nat_cmp n (keyed nat_cmp number_of (c ∷ cs)))) where
  pub below_first : n < number_of c
  below_first = lt_from_less n (number_of c) (less_from_test (nat_cmp n (number_of c))
      (first_of_both (is_lt (nat_cmp n (number_of c))) (below_all nat_cmp n (keyed nat_cmp number_of cs)) b))

  pub below_others : T (below_all nat_cmp n (keyed nat_cmp number_of cs))
  below_others = second_of_both (is_lt (nat_cmp n (number_of c))) (below_all nat_cmp n (keyed nat_cmp number_of cs)) b

-- what is found passes the test, and is above what all are above
pub below_found : (p : Container → Bool) (n : ℕ) (cs : List Container) (c : Container)
    → T (below_all nat_cmp n (keyed nat_cmp number_of cs)) → find p cs ≡ Some c → n < number_of c
below_found p n [] c b f = absurd (cc)
below_found p n (x ∷ xs) c b f =
    elim (p x) as (λ t. cond t (Some x) (find p xs) ≡ Some c → n < number_of c) [
      | true ↦ λ k. let one : x ≡ c = ap (λ o. unwrap_or o c) k in
          subst (λ (y : Container). n < number_of y) one (below_first n x xs b)
      | false ↦ λ k. below_found p n xs c (below_others n x xs b) k
    ] f

below_held : (n m : ℕ) (es : Entries) (c : Container) → AreNumbered es
    → T (below_all nat_cmp n (keyed nat_cmp number_of (values_of es))) → at m es ≡ Some c → n < m
below_held n m [] c h b f = absurd (cc)
below_held n m (e ∷ es) c h b f =
    elim (is_at (nat_cmp m) e.0) as (λ t. is_at (nat_cmp m) e.0 ≡ t → cond t (Some e.1) (at m es) ≡ Some c → n < m) [
      | true ↦ λ is k.
          let low = below_first n e.1 (values_of es) b in
          let key : e.0 ≡ number_of e.1 = h.0 in
          let same : m ≡ e.0 = here_number m e.0 is in
          omega (arith, low, key, same)
      | false ↦ λ is k. below_held n m es c h.1 (below_others n e.1 (values_of es) b) k
    ] refl f

-- what is found passes the test
pub found_passes : (p : Container → Bool) (cs : List Container) (c : Container) → find p cs ≡ Some c → p c ≡ true
found_passes p [] c f = absurd (cc)
found_passes p (x ∷ xs) c f =
    elim (p x) as (λ t. p x ≡ t → cond t (Some x) (find p xs) ≡ Some c → p c ≡ true) [
      | true ↦ λ is k. let one : x ≡ c = ap (λ o. unwrap_or o c) k in subst (λ (y : Container). p y ≡ true) one is
      | false ↦ λ is k. found_passes p xs c k
    ] refl f

-- what is found stands at its number
pub found_held : (p : Container → Bool) (es : Entries) (c : Container) → AreNumbered es
    → IsRising nat_cmp number_of (values_of es)
    → find p (values_of es) ≡ Some c → at (number_of c) es ≡ Some c
found_held p [] c h r f = absurd (cc)
found_held p (e ∷ es) c h r f =
    elim (p e.1) as (λ t. cond t (Some e.1) (find p (values_of es)) ≡ Some c → at (number_of c) (e ∷ es) ≡ Some c) [
      | true ↦ λ k.
          let one : e.1 ≡ c = ap (λ o. unwrap_or o c) k in
          let key : number_of c ≡ e.0 = sym (h.0 ∙ ap number_of one) in
          ap (λ t. cond t (Some e.1) (at (number_of c) es)) (ap (λ m. is_at (nat_cmp m) e.0) key ∙ at_itself e.0) ∙ k
      | false ↦ λ k.
          let low = below_found p (number_of e.1) (values_of es) c
          (below_rest nat_cmp number_of e.1 (values_of es) r) k in
          let key : e.0 ≡ number_of e.1 = h.0 in
          ap (λ t. cond t (Some e.1) (at (number_of c) es)) (not_here (number_of c) e.0
          (λ s. omega (arith, s, key, low)))
          ∙ found_held p es c h.1 (IsRising-tail nat_cmp number_of e.1 (values_of es) r) k
    ] f

-- where none passes, none that stands at a number does
none_held : (p : Container → Bool) (n : ℕ) (es : Entries) (c : Container) → find p (values_of es) ≡ None
    → at n es ≡ Some c → p c ≡ false
none_held p n [] c f k = absurd (cc)
none_held p n (e ∷ es) c f k =
    elim (p e.1) as (λ t. p e.1 ≡ t → cond t (Some e.1) (find p (values_of es)) ≡ None → p c ≡ false) [
      | true ↦ λ is g. absurd (cc)
      | false ↦ λ is g.
          elim (is_at (nat_cmp n) e.0) as (λ t. cond t (Some e.1) (at n es) ≡ Some c → p c ≡ false) [
            | true ↦ λ m. let one : e.1 ≡ c = ap (λ o. unwrap_or o c) m in subst (λ (y : Container). p y ≡ false) one is
            | false ↦ λ m. none_held p n es c g m
          ] k
    ] refl f

-- no container that passes has a lower number than what is found
first_found : (p : Container → Bool) (n : ℕ) (es : Entries) (c d : Container) → AreNumbered es
    → IsRising nat_cmp number_of (values_of es)
    → find p (values_of es) ≡ Some c → at n es ≡ Some d → p d ≡ true → number_of c ≤ n
first_found p n [] c d h r f k q = absurd (cc)
first_found p n (e ∷ es) c d h r f k q =
    let key : e.0 ≡ number_of e.1 = h.0 in
    elim (is_at (nat_cmp n) e.0) as (λ t. is_at (nat_cmp n) e.0 ≡ t → cond t (Some e.1) (at n es) ≡ Some d
    → number_of c ≤ n) [
      | true ↦ λ is m.
          let one : e.1 ≡ d = ap (λ o. unwrap_or o d) m in
          let passes : p e.1 ≡ true = ap p one ∙ q in
          let first : Some e.1 ≡ Some c = ap (λ t. cond t (Some e.1) (find p (values_of es))) (sym passes) ∙ f in
          let same : number_of e.1 ≡ number_of c = ap (λ o. number_of (unwrap_or o c)) first in
          let at_n : n ≡ e.0 = here_number n e.0 is in
          omega (arith, key, same, at_n)
      | false ↦ λ is m.
          elim (p e.1) as (λ t. cond t (Some e.1) (find p (values_of es)) ≡ Some c → number_of c ≤ n) [
            | true ↦ λ g.
                let same : number_of e.1 ≡ number_of c = ap (λ o. number_of (unwrap_or o c)) g in
                let low = below_held (number_of e.1) n es d h.1 (below_rest nat_cmp number_of e.1 (values_of es) r) m in
                omega (arith, same, low)
            | false ↦ λ g. first_found p n es c d h.1 (IsRising-tail nat_cmp number_of e.1 (values_of es) r) g m q
          ] f
    ] refl k

module _ (p : Container → Bool) (es : Entries) (h : AreNumbered es)
    (r : IsRising nat_cmp number_of (values_of es)) where
  -- none passes, where none that stands at its number does
  pub find-none : ((c : Container) → at (number_of c) es ≡ Some c → p c ≡ true → ⊥) → None ≡ find p (values_of es)
  find-none never = by (find p (values_of es)) refl
    where
      by : (o : Option Container) → find p (values_of es) ≡ o → None ≡ o
      by None e = refl
      by (Some c) e = absurd (never c (found_held p es c h r e) (found_passes p (values_of es) c e))

  -- the one that passes and has no higher number than another that passes is found
  pub find-least : (n : ℕ) (c : Container) → at n es ≡ Some c → p c ≡ true
      → ((d : Container) → at (number_of d) es ≡ Some d → p d ≡ true → n ≤ number_of d) → Some c ≡ find p (values_of es)
  find-least n c held passes least = by (find p (values_of es)) refl
    where
      by : (o : Option Container) → find p (values_of es) ≡ o → Some c ≡ o
      by None e = let fails = none_held p n es c e held in absurd (cc)
      by (Some d) e =
          let there = found_held p es d h r e in
          let low = least d there (found_passes p (values_of es) d e) in
          let high = first_found p n es d c h r e held passes in
          let same : number_of d ≡ n = omega (arith, low, high) in
          sym held ∙ ap (λ m. at m es) (sym same) ∙ there
