-- Two maps that tell of each other still do after an item is put, or taken with the last one in its place.
use Rattle.std.proofs.Common.{◌≡◌, ◌≢◌, ◌⊎◌, Bool, cond, ◌&&◌, List, Option, Some, None, inl, inr, ap, sym, ◌∙◌}
use Rattle.std.specs.Map.{lookup}
use Rattle.std.specs.Option.{unwrap_or}
use Rattle.watch_lists.proofs.Apart.{TellsApart, TellsApart-pairs, apart, decide}

-- what one map has beside a key of a group, the other has the other way round
abbrev pub Tells : {C A B : Type 0} → (C → A → Option B) → (C → B → Option A) → Type 0
Tells {C} {A} {B} f g = (c : C) (a : A) (b : B) → f c a ≡ Some b → g c b ≡ Some a

-- the key of a group is another one
abbrev pub IsOther : {C A : Type 0} → C × A → C × A → Type 0
IsOther k j = k ≢ j

-- a key of a group has come
pub record Comes {C A B : Type 0} (f new : C → A → Option B) (c0 : C) (a0 : A) (b0 : B) : Type 0 where
  pub here : new c0 a0 ≡ Some b0
  pub other : (c : C) (a : A) → IsOther {C = C} {A = A} (c, a) (c0, a0) → new c a ≡ f c a

-- a key of a group has gone, and another has got this value
pub record Moves {C A B : Type 0} (f new : C → A → Option B) (c0 : C) (gone kept : A) (b0 : B) : Type 0 where
  pub none : new c0 gone ≡ None
  pub some : kept ≢ gone → new c0 kept ≡ Some b0
  pub other : (c : C) (a : A) → IsOther {C = C} {A = A} (c, a) (c0, gone)
      → IsOther {C = C} {A = A} (c, a) (c0, kept) → new c a ≡ f c a

same_value : {X : Type 0} {x y : X} → Some x ≡ Some y → x ≡ y
same_value {x = x} e = ap (λ s. unwrap_or s x) e

module _ {C A : Type 0} {eq : C → C → Bool} {same : A → A → Bool} (t : TellsApart eq) (u : TellsApart same) where
  same_pair : (k j : C × A) → (k ≡ j) ⊎ IsOther k j
  same_pair k j = decide (TellsApart-pairs t u) k j

  -- after a key came on both sides
  pub told_come : {B : Type 0} (f f2 : C → A → Option B) (g g2 : C → B → Option A) (c0 : C) (a0 : A) (b0 : B)
      → Tells f g → g c0 b0 ≡ None → Comes f f2 c0 a0 b0 → Comes g g2 c0 b0 a0 → Tells f2 g2
  told_come {B = B} f f2 g g2 c0 a0 b0 tells free here there c a b e =
      elim (same_pair (c, a) (c0, a0)) as (λ _. g2 c b ≡ Some a) [
        | (inl is) ↦
            let value : b0 ≡ b = same_value (sym here.here ∙ sym (ap (λ (k : C × A). f2 k.0 k.1) is) ∙ e) in
            ap (g2 c) (sym value) ∙ ap (λ (k : C × A). g2 k.0 b0) is ∙ there.here
            ∙ ap (λ (k : C × A). Some k.1) (sym is)
        | (inr not) ↦
            let was : g c b ≡ Some a = tells c a b (sym (here.other c a not) ∙ e) in
            there.other c b (λ is. let none : g c b ≡ None = ap (λ (k : C × B). g k.0 k.1) is ∙ free in absurd cc) ∙ was
      ]

  -- after one has gone and the last has got its place
  pub told_moved : {B : Type 0} (f f2 : C → A → Option B) (g g2 : C → B → Option A) (c0 : C) (a0 a1 : A) (b0 b1 : B)
      → Tells f g → f c0 a0 ≡ Some b0 → g c0 b1 ≡ Some a1 → Moves f f2 c0 a0 a1 b0 → Moves g g2 c0 b1 b0 a1 → Tells f2 g2
  told_moved {B = B} f f2 g g2 c0 a0 a1 b0 b1 tells first last here there c a b e =
      let back : g c0 b0 ≡ Some a0 = tells c0 a0 b0 first in
      elim (same_pair (c, a) (c0, a0)) as (λ _. g2 c b ≡ Some a) [
        | (inl is) ↦
            let none : f2 c a ≡ None = ap (λ (k : C × A). f2 k.0 k.1) is ∙ here.none in
            absurd cc
        | (inr not) ↦ elim (same_pair (c, a) (c0, a1)) as (λ _. g2 c b ≡ Some a) [
          | (inl is) ↦
              let differ : a1 ≢ a0 = λ one. not (is ∙ ap (λ (x : A). (c0, x)) one) in
              let value : b0 ≡ b = same_value (sym (here.some differ) ∙ sym (ap (λ (k : C × A). f2 k.0 k.1) is) ∙ e) in
              let places : b0 ≢ b1 = λ one. differ (same_value (sym last ∙ ap (g c0) (sym one) ∙ back)) in
              ap (g2 c) (sym value) ∙ ap (λ (k : C × A). g2 k.0 b0) is ∙ there.some places
              ∙ ap (λ (k : C × A). Some k.1) (sym is)
          | (inr far) ↦
              let was : g c b ≡ Some a = tells c a b (sym (here.other c a not far) ∙ e) in
              there.other c b
              (λ is. let there : Some a1 ≡ Some a = sym last ∙ ap (λ (k : C × B). g k.0 k.1) (sym is) ∙ was in
              far (λ i. ((is i).0, sym (same_value there) i)))
              (λ is. let there : Some a0 ≡ Some a = sym back ∙ ap (λ (k : C × B). g k.0 k.1) (sym is) ∙ was in
              not (λ i. ((is i).0, sym (same_value there) i)))
              ∙ was
        ]
      ]

  -- what a map is after a put
  pub Comes-put : {B : Type 0} (m n : List ((C × A) × B)) (c0 : C) (a0 : A) (b0 : B)
      → ((q : C × A) → lookup (λ k. eq q.0 k.0 && same q.1 k.1) n
      ≡ cond (eq c0 q.0 && same a0 q.1) (Some b0) (lookup (λ k. eq q.0 k.0 && same q.1 k.1) m))
      → Comes (λ c a. lookup (λ k. eq c k.0 && same a k.1) m) (λ c a. lookup (λ k. eq c k.0 && same a k.1) n) c0 a0 b0
  Comes-put m n c0 a0 b0 puts = record {
    here = puts (c0, a0) ∙ ap (λ b. cond b (Some b0) (lookup (λ k. eq c0 k.0 && same a0 k.1) m))
        ((TellsApart-pairs t u).itself (c0, a0));
    other = λ c a not. puts (c, a) ∙ ap (λ b. cond b (Some b0) (lookup (λ k. eq c k.0 && same a k.1) m))
        (apart (TellsApart-pairs t u) (c0, a0) (c, a) (λ is. not (sym is)));
  }

  -- what it is after a value is written over and an entry taken away
  pub Moves-taken : {B : Type 0} (m n l : List ((C × A) × B)) (c0 : C) (gone kept : A) (b0 : B)
      → ((q : C × A) → lookup (λ k. eq q.0 k.0 && same q.1 k.1) n
      ≡ cond (eq c0 q.0 && same kept q.1) (Some b0) (lookup (λ k. eq q.0 k.0 && same q.1 k.1) m))
      → ((q : C × A) → lookup (λ k. eq q.0 k.0 && same q.1 k.1) l
      ≡ cond (eq c0 q.0 && same gone q.1) None (lookup (λ k. eq q.0 k.0 && same q.1 k.1) n))
      → Moves (λ c a. lookup (λ k. eq c k.0 && same a k.1) m) (λ c a. lookup (λ k. eq c k.0 && same a k.1) l) c0 gone kept b0
  Moves-taken m n l c0 gone kept b0 writes takes =
      let pairs = TellsApart-pairs t u in
      record {
        none = takes (c0, gone) ∙ ap (λ b. cond b None (lookup (λ k. eq c0 k.0 && same gone k.1) n))
            (pairs.itself (c0, gone));
        some = λ differ. takes (c0, kept) ∙ ap (λ b. cond b None (lookup (λ k. eq c0 k.0 && same kept k.1) n))
            (apart pairs (c0, gone) (c0, kept) (λ is. differ (sym (ap (λ (k : C × A). k.1) is))))
            ∙ writes (c0, kept) ∙ ap (λ b. cond b (Some b0) (lookup (λ k. eq c0 k.0 && same kept k.1) m))
            (pairs.itself (c0, kept));
        other = λ c a not far. takes (c, a) ∙ ap (λ b. cond b None (lookup (λ k. eq c k.0 && same a k.1) n))
            (apart pairs (c0, gone) (c, a) (λ is. not (sym is)))
            ∙ writes (c, a) ∙ ap (λ b. cond b (Some b0) (lookup (λ k. eq c k.0 && same a k.1) m))
            (apart pairs (c0, kept) (c, a) (λ is. far (sym is)));
      }
