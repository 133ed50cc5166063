-- A turn, put together from its steps.
use Rattle.std.proofs.Common.{◌≡◌, ℕ, true, List, [], ◌∷◌, ◌++◌, length, drop, Option, Some, None, sym, refl, ap, ◌∙◌, subst}
use Rattle.std.specs.Fn.{FnOnceReturnsAtMut}
use denote.Ref.{MutBor}
use denote.Param.Members.{Once}
use Rattle.atomic_table.specs.Table.{Me, rest}
use Rattle.ticket_desk.specs.declared.view.View.{View}
use Rattle.ticket_desk.specs.Rule.{IsIdle}
use Rattle.ticket_desk.specs.Steps.{Fits, TakesTurn, after_turn}
use Rattle.ticket_desk.specs.Turns.{Adds, JobKeeps, Turned}
use Rattle.ticket_desk.specs.Tables.{IsDone}
use Rattle.ticket_desk.proofs.Views.{some_same}

-- what is in the slot that was taken last
in_hand : {S : Type 0} → S → List (ℕ × S) → S
in_hand d [] = d
in_hand d (x ∷ xs) = x.1

module _ {V T O : Type 0} (items : V → List T) (origin : V → O) where
  abbrev M : Type 0
  M = Me (Option V) (View T O)

  -- the view while its turn is on
  abbrev at_work : View T O → ℕ → V → View T O
  at_work v t x = record v { ticket = Some t; turn = true; seen = items x }

  pub record Taken (m0 : M) (t : ℕ) (m2 : M) : Type 0 where
    pub value : V
    pub is : m2 ≡ (at_work m0.0 t value, (0, Some value) ∷ [])
    pub fits : Fits items origin m0.0 value

  pub taken : (m0 m1 m2 : M) (t : ℕ) → IsIdle m0 → m1 ≡ (record m0.0 { ticket = Some t }, m0.1)
      → TakesTurn items origin m1 m2 → Taken m0 t m2
  taken m0 m1 m2 t idle drawn took = let x : V = took.0 in record {
    value = x;
    is = took.1 ∙ ap (λ (m : M). (record m.0 { turn = true; seen = items x }, (0, Some x) ∷ m.1)) drawn ∙ ap
        (λ c. (at_work m0.0 t x, (0, Some x) ∷ c)) idle.no_slot;
    fits = subst (λ (m : M). Fits items origin m.0 x) drawn took.2;
  }

  pub in_slot : (m0 : M) (t : ℕ) (m2 : M) (k : Taken m0 t m2) → m2.1 ≡ (0, Some k.value) ∷ rest m2.1
  in_slot m0 t m2 k = let e = ap (λ (m : M). m.1) k.is in e ∙ ap (λ c. (0, Some k.value) ∷ c) (sym (ap rest e))

  module _ (m0 : M) (t : ℕ) (m2 m3 m4 : M) (k : Taken m0 t m2) (value left : V) (found : Option V)
      (out : m2.1 ≡ (0, found) ∷ rest m2.1) (found_is : found ≡ Some value)
      (m3_is : m3 ≡ (m2.0, (0, None) ∷ rest m2.1)) (m4_is : m4 ≡ (m3.0, (0, Some left) ∷ rest m3.1)) where
    pub same_value : k.value ≡ value
    unfolding in_hand
    same_value = some_same k.value value (ap (in_hand None) (sym (ap (λ (m : M). m.1) k.is) ∙ out) ∙ found_is)

    pub back : m4 ≡ (at_work m0.0 t k.value, (0, Some left) ∷ [])
    back =
        m4_is ∙ ap (λ (m : M). (m.0, (0, Some left) ∷ rest m.1)) m3_is ∙ ap
        (λ (m : M). (m.0, (0, Some left) ∷ rest m.1)) k.is

    module _ {F R : Type 0} (g : Once F (MutBor V × Unit {0}) (R × (MutBor V × Unit {0}))) (f : F) (by : T → ℕ) (n : ℕ)
        (r : R)
        (asked : JobKeeps items origin g f by n m0.0) (idle : IsIdle m0) (numbered : m0.0.number ≡ Some n)
        (ran : FnOnceReturnsAtMut g f value r left) where
      ran_there : FnOnceReturnsAtMut g f k.value r left
      ran_there = subst (λ x. FnOnceReturnsAtMut g f x r left) (sym same_value) ran

      kept : (origin left ≡ origin k.value) × Adds by n (items k.value) (items left)
      kept = (asked k.value k.fits).1 r left ran_there

      pub is_done : IsDone items origin by n t m4
      is_done = (
        ap (λ (m : M). m.0.number) back ∙ numbered,
        ap (λ (m : M). m.0.ticket) back,
        ap (λ (m : M). m.0.turn) back,
        (
          left,
          ap (λ (m : M). m.1) back,
          subst (λ (xs : List T). Adds by n xs (items left)) (sym (ap (λ (m : M). m.0.seen) back)) kept.1,
          ap (λ (m : M). m.0.origin) back ∙ k.fits.1 ∙ ap (λ (o : O). Some o) (sym kept.0),
        ),
      )

      pub turned : (m5 : M) → ((y : V) × (m4.1 ≡ (0, Some y) ∷ []) × (m5 ≡ (after_turn m4.0 (items y), [])))
          → Turned items origin g f by n m0.0 m5.0 r
      unfolding in_hand
      turned m5 home =
          let y : V = home.0 in
          let same : y ≡ left = some_same y left (ap (in_hand None) (sym home.1 ∙ ap (λ (m : M). m.1) back)) in
          let log : List T = items left in let more : List T = m0.0.mine ++ drop (length (items k.value)) log in
          record {
            value = k.value;
            left = left;
            saw = k.fits.0;
            source = k.fits.1;
            ran = ran_there;
            added = kept.1;
            view_is =
                ap (λ (m : M). m.0) home.2
                ∙ ap (λ (z : V). after_turn m4.0 (items z)) same
                ∙ ap (λ (m : M). after_turn m.0 log) back
                ∙ (λ j. record m0.0 {
                  ticket = sym idle.no_ticket j;
                  turn = sym idle.no_turn j;
                  seen = log;
                  mine =
                      more;
                });
          }

-- what a call of the job says, at the value before it and the value after it
pub ran_once : {V F R : Type 0} (g : Once F (MutBor V × Unit {0}) (R × (MutBor V × Unit {0}))) (f : F) (p q : MutBor V)
    (r : R) → g.post f (p, tt) (r, (q, tt))
    → FnOnceReturnsAtMut g f p.now r q.now
ran_once g f p q r met = record { shown = p; shows = refl; left = q; met = met; leaves = refl }
