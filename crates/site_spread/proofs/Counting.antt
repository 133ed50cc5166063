-- How often a key is among others, with one key more.
use Rattle.std.proofs.Common.{◌≡◌, ℕ, ◌+◌, ◌<◌, Bool, true, false, cond, List, length, take, get_or, Option, Some, refl, sym, ap, ◌∙◌}
use Rattle.std.specs.List.{count_by}
use Rattle.std.specs.Option.{unwrap_or}
use Rattle.std.proofs.lemmas.Bool.{and_parts}
use Rattle.std.proofs.lemmas.List.Sums.{count_by_more_yes, count_by_more_no}
use Rattle.auctioneer.specs.Stands.{same_name}
use Rattle.site_spread.specs.Spots.{same_spot}
use Rattle.site_spread.specs.declared.spots.Spot.{Spot}
use Rattle.what_if.proofs.Names.{name_from_test}

-- tests that only one and the same pass can be turned
module _ {K : Type 0} (eq : K → K → Bool) (exact : (a b : K) → eq a b ≡ true → a ≡ b) where
  turned_if : (a b : K) → a ≡ b → eq a b ≡ eq b a
  turned_if a b e = λ i. eq (e i) (sym e i)

  turned : (a b : K) → eq a b ≡ eq b a
  turned a b =
      elim (eq a b) as (λ x. eq a b ≡ x → x ≡ eq b a) [
        | true ↦ λ e. sym e ∙ turned_if a b (exact a b e)
        | false ↦ λ e. elim (eq b a) as (λ y. eq b a ≡ y → false ≡ y) [
          | true ↦ λ f. sym e ∙ sym (turned_if b a (exact b a f)) ∙ f
          | false ↦ λ f. refl
        ] refl
      ] refl

  pub counted_next : (q : K) (keys : List K) (i n : ℕ) (key : K) (old : K → Option ℕ) → i < length keys
      → key ≡ get_or keys i key → ((k : K) → unwrap_or (old k) 0 ≡ count_by (λ x. eq k x) (take i keys))
      → n ≡ unwrap_or (old key) 0 → unwrap_or (cond (eq key q) (Some (n + 1)) (old q)) 0
      ≡ count_by (λ x. eq q x) (take (i + 1) keys)
  counted_next q keys i n key old lt is so_far now =
      elim (eq key q) as (λ b. eq key q ≡ b → unwrap_or (cond b (Some (n + 1)) (old q)) 0
      ≡ count_by (λ x. eq q x) (take (i + 1) keys)) [
        | true ↦ λ e.
            let same : key ≡ q = exact key q e in
            let passes : eq q (get_or keys i key) ≡ true = ap (eq q) (sym is) ∙ sym (turned key q) ∙ e in
            ap (λ (m : ℕ). m + 1) (now ∙ ap (λ (k : K). unwrap_or (old k) 0) same ∙ so_far q)
            ∙ sym (count_by_more_yes (λ x. eq q x) keys i key lt passes)
        | false ↦ λ e.
            so_far q
            ∙ sym (count_by_more_no (λ x. eq q x) keys i key lt (ap (eq q) (sym is) ∙ sym (turned key q) ∙ e))
      ] refl

pub spot_from_test : (a b : Spot) → same_spot a b ≡ true → a ≡ b
spot_from_test a b e =
    let both = and_parts (same_name a.process b.process) (same_name a.place b.place) e in
    λ i. record {
      process = name_from_test a.process b.process both.0 i;
      place =
          name_from_test a.place b.place both.1 i;
    }
