-- Lemmas for the crates above: what is said of all passes, place by place.
use Rattle.std.proofs.Common.{◌≡◌, ℕ, zero, suc, ◌<◌, List, [], ◌∷◌, length, get_or, refl, sym, ◌∙◌, subst, arith}
use Rattle.atomic_table.specs.Seated.{TableId}
use Rattle.ticket_desk.specs.declared.pass.Pass.{Pass}
use Rattle.ticket_desk.specs.Views.{EachAt}
use Rattle.ticket_desk.specs.Passes.{IsPass, IsSamePass, AreAll}
use Rattle.ticket_desk.proofs.Lists.{get_within}
use Rattle.ticket_desk.proofs.Closes.{there}

get_or_any : {A : Type 0} (l : List A) (k : ℕ) (d e : A) → k < length l → get_or l k d ≡ get_or l k e
get_or_any [] k d e lt = absurd (omega arith)
get_or_any (x ∷ xs) zero d e lt = refl
get_or_any (x ∷ xs) (suc k) d e lt = get_or_any xs k d e (omega arith)

module _ {A : Type 0} where
  -- what holds at each place, read by index
  pub each_by_index : (P : ℕ → A → Type 0) (l : List A) → ((k : ℕ) (d : A) → k < length l → P k (get_or l k d))
      → EachAt P l
  each_by_index P l h k a at = let r = get_within l k a at in subst (P k) r.1 (h k a r.0)

  pub by_index : (P : ℕ → A → Type 0) (l : List A) → EachAt P l → (k : ℕ) (d : A) → k < length l → P k (get_or l k d)
  by_index P l each k d lt =
      let t = there l k lt in let r = get_within l k t.0 t.1 in
      subst (P k) (sym r.1 ∙ get_or_any l k t.0 d lt) (each k t.0 t.1)

module _ {V T O : Type 0} where
  pub same_pass : (p : Pass V T O) → IsSamePass p p
  same_pass p = record { desk = refl; number = refl; given = refl }

  pub same_then : (p q r : Pass V T O) → IsSamePass p q → IsSamePass q r → IsSamePass p r
  same_then p q r a b = record { desk = b.desk ∙ a.desk; number = b.number ∙ a.number; given = b.given ∙ a.given }

  pub pass_stays : (z : TableId) (many k : ℕ) (p q : Pass V T O) → IsSamePass p q → IsPass z many k p
      → IsPass z many k q
  pass_stays z many k p q same is = record {
    desk = same.desk ∙ is.desk;
    number = same.number ∙ is.number;
    given = λ e. same.given ∙ is.given e;
  }

  -- passes that stay the same are still all passes of their desk
  pub all_stay : (z : TableId) (ps qs : List (Pass V T O)) → length qs ≡ length ps
      → ((k : ℕ) (d : Pass V T O) → k < length ps → IsSamePass (get_or ps k d) (get_or qs k d)) → AreAll z ps
      → AreAll z qs
  all_stay z ps qs same_length same all = (
    subst (λ (n : ℕ). 0 < n) (sym same_length) all.0,
    each_by_index (IsPass z (length qs)) qs (λ k d lt.
        let lt' : k < length ps = subst (λ (n : ℕ). k < n) same_length lt in
        subst (λ (n : ℕ). IsPass z n k (get_or qs k d)) (sym same_length)
        (pass_stays z (length ps) k (get_or ps k d) (get_or qs k d) (same k d lt')
        (by_index (IsPass z (length ps)) ps all.1 k d lt'))),
  )
