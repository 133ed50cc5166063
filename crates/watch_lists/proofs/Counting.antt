-- A group has no more items than there are entries.
use Rattle.std.proofs.Common.{◌≡◌, ℕ, zero, suc, ◌+◌, ◌<◌, ◌≤◌, Bool, true, false, cond, List, [], ◌∷◌, length, Some, is_some, ap, sym, ◌∙◌, refl, arith}
use Rattle.std.specs.Map.{lookup, remove_entry}
use Rattle.watch_lists.proofs.Apart.{TellsApart, TellsApart-numbers, TellsApart-pairs, apart}
use Rattle.watch_lists.specs.Groups.{is_number, item_by}

module _ {K V : Type 0} (test : K → Bool) where
  -- an entry taken away leaves one less
  length-taken : (es : List (K × V)) → is_some (lookup test es) ≡ true → length (remove_entry test es) + 1 ≡ length es
  length-taken [] e = absurd cc
  length-taken (e ∷ es) found =
      elim (test e.0) as (λ (b : Bool). is_some (cond b (Some e.1) (lookup test es)) ≡ true
      → length (cond b es (e ∷ remove_entry test es)) + 1 ≡ length (e ∷ es)) [
        | true ↦ λ f. omega arith
        | false ↦ λ f. let rest : length (remove_entry test es) + 1 ≡ length es = length-taken es f in omega (arith, rest)
      ] found

  -- and is not what another test finds
  lookup-taken : (other : K → Bool) → ((k : K) → test k ≡ true → other k ≡ false) → (es : List (K × V))
      → lookup other (remove_entry test es) ≡ lookup other es
  lookup-taken other far [] = refl
  lookup-taken other far (e ∷ es) =
      elim (test e.0) as (λ (b : Bool). test e.0 ≡ b → lookup other (cond b es (e ∷ remove_entry test es))
      ≡ cond (other e.0) (Some e.1) (lookup other es)) [
        | true ↦ λ is. sym (ap (λ b. cond b (Some e.1) (lookup other es)) (far e.0 is))
        | false ↦ λ is. ap (cond (other e.0) (Some e.1)) (lookup-taken other far es)
      ] refl

module _ {C S : Type 0} {eq : C → C → Bool} (t : TellsApart eq) (c : C) where
  -- so many numbers of a group have items, so many entries there are
  pub count-le : (n : ℕ) (items : List ((C × ℕ) × S)) → ((k : ℕ) → k < n → is_some (item_by eq items c k) ≡ true)
      → n ≤ length items
  count-le zero items each = omega arith
  count-le (suc n) items each =
      let left = remove_entry (is_number eq (c, n)) items in
      let one : length left + 1 ≡ length items = length-taken (is_number eq (c, n)) items (each n (omega arith)) in
      let rest : n ≤ length left = count-le n left (λ k lt.
      ap is_some (lookup-taken (is_number eq (c, n)) (is_number eq (c, k)) (λ j is.
      let here : ◌≡◌ {A = C × ℕ} (c, n) j = (TellsApart-pairs t TellsApart-numbers).exact (c, n) j is in
      apart (TellsApart-pairs t TellsApart-numbers) (c, k) j
      (λ there. let same : k ≡ n = ap (λ (p : C × ℕ). p.1) (there ∙ sym here) in absurd (omega (arith, same, lt)))) items)
      ∙ each k (omega (arith, lt))) in
      omega (arith, one, rest)
