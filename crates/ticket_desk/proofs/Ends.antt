-- The rule at the start and at the end.
use Rattle.std.proofs.Common.{◌≡◌, ℕ, zero, suc, ◌<◌, ◌≢◌, true, false, cond, eqb, List, [], ◌∷◌, ◌++◌, Option, Some, sym, refl, ap, ◌∙◌, subst, inl, inr, arith}
use Rattle.std.proofs.lemmas.List.{append-nil}
use mathlib.Core.Logic.{dite}
use mathlib.Core.Option.{some, some-injective, some-ne-none}
use native.Mathlib.Decide.{ℕ_discrete}
use lib.ListN.{get_elem?}
use Rattle.atomic_table.specs.Table.{State, Final, Seen, opening}
use Rattle.ticket_desk.specs.declared.view.View.{View}
use Rattle.ticket_desk.specs.Views.{Begins}
use Rattle.ticket_desk.specs.Rule.{ToldOk, NumberOk, ViewOk, Legal, SlotIs, first_view}
use Rattle.ticket_desk.specs.Ends.{HasAll, IsLeft}
use Rattle.ticket_desk.proofs.Lists.{one_there, each_cons, each_nil}
use Rattle.ticket_desk.proofs.Views.{false_true, some_none, none_some, some_same, no_less, two_seats, number_there}

one_owner : ℕ → ℕ
one_owner n = cond (eqb n 0) 1 0

own_zero : one_owner 0 ≡ 1
unfolding one_owner
own_zero = refl

lone_place : {A : Type 0} (a b : A) (i : ℕ) → get_elem? (a ∷ []) i ≡ some b → i ≡ 0
lone_place a b zero e = refl
lone_place a b (suc i) e = absurd (some-ne-none b (sym e))

module _ {V T O : Type 0} (items : V → List T) (origin : V → O) (by : T → ℕ) (start : V) where
  abbrev L : State (Option V) (View T O) → Type 0
  L = Legal items origin by start

  starts : (from : ℕ) → from < 18446744073709551616 → L (opening (from ∷ from ∷ []) (Some start ∷ [])
      (first_view (items start) (origin start)))
  starts from fits =
      let log : List T = items start ++ [] in let first : View T O = first_view (items start) (origin start) in
      let Ok : ℕ → View T O → Type 0 = ViewOk by log [] 1 one_owner (origin start) from 0 in
      let first_ok : Ok 0 first = record {
        ticket_is = λ t e. absurd (none_some t e);
        note_is = λ e. absurd (none_some 0 (sym e));
        number_is = λ n e. subst (λ (k : ℕ). NumberOk by log [] 1 one_owner (origin start) 0 first k) (some_same 0 n e)
            (record { below = omega arith; owned = own_zero; mine_is = refl; origin_is = refl });
        first_is = λ e. refl;
        seen_is = ([], refl);
        turn_is = λ e. absurd (false_true false refl e);
        joined_are = each_nil (λ _ e. ToldOk by log [] 1 one_owner e);
        heard_are = each_nil (λ _ (xs : List T). Begins xs log);
      } in
      record {
        fresh = [];
        drawn = from;
        served = from;
        given = 1;
        owner = one_owner;
        words_are = refl;
        served_fits = fits;
        queue_is = omega arith;
        few = (omega arith, omega arith);
        apart = λ i j t v w at_i at_j _ _. lone_place first v i at_i ∙ sym (lone_place first w j at_j);
        each = each_cons Ok first [] first_ok (each_nil (λ i. Ok (suc i)));
        unused = λ n _. refl;
        slot_is = inl (
          start,
          refl,
          sym (append-nil (items start)),
          refl,
          each_cons (λ _ (v : View T O). v.turn ≡ false) first [] refl
              (each_nil (λ _ (v : View T O). v.turn ≡ false)),
        );
      }

  pub starts_with : (from : ℕ) → from < 18446744073709551616 → (slots : List (Option V)) → slots ≡ Some start ∷ []
      → L (opening (from ∷ from ∷ []) slots (first_view (items start) (origin start)))
  starts_with from fits slots is = subst (λ (xs : List (Option V)).
      L (opening (from ∷ from ∷ []) xs (first_view (items start) (origin start)))) (sym is) (starts from fits)

  module _ (id : ℕ) (v : View T O) (all : HasAll v) (s : State (Option V) (View T O)) (l : L s)
      (at : get_elem? s.views id ≡ some v) where
    given_is : v.given ≡ l.given
    given_is = (l.each id v at).first_is all.number_is

    zero_is : NumberOk by (items start ++ l.fresh) l.fresh l.given l.owner (origin start) id v 0
    zero_is = (l.each id v at).number_is 0 all.number_is

    -- whoever has a number that is not 0 was joined
    no_seat : (n i : ℕ) → n < l.given → n ≢ 0 → l.owner n ≡ suc i → ⊥
    no_seat n i below some_number owned =
        let g = given_is in let found = all.all n (omega arith) (omega arith) in
        let gone : l.owner n ≡ 0 = ap l.owner (sym found.3) ∙
        ((l.each id v at).joined_are found.0 found.1 found.2).gone in
        no_less 0 (omega arith)

    no_turn : (i : ℕ) (u : View T O) → get_elem? s.views i ≡ some u → u.turn ≡ true → ⊥
    no_turn i u at_i on =
        let ok = l.each i u at_i in
        let number = number_there u.number (λ e. some_none u.ticket l.served (ok.note_is e).0 (ok.turn_is on).0) in
        let n : ℕ = number.0 in let has = ok.number_is n number.1 in
        dite (ℕ_discrete n 0)
        (λ (e : n ≡ 0).
        let same : i ≡ id = two_seats (l.owner 0) i id (subst (λ (k : ℕ). l.owner k ≡ suc i) e has.owned) zero_is.owned
        in
        let is : u ≡ v = one_there s.views id u v (subst (λ (k : ℕ). get_elem? s.views k ≡ some u) same at_i) at in
        false_true v.turn all.no_turn (sym (ap (λ (y : View T O). y.turn) is) ∙ on))
        (λ (ne : n ≢ 0). no_seat n i has.below ne has.owned)

    abbrev At : Option V → Type 0
    At found = (x : V) × (found ≡ Some x) × IsLeft items origin by start v x

    left_there : (found : Option V) → ((y : Option V) → get_elem? s.homes 0 ≡ some (some y) → found ≡ y)
        → SlotIs items origin (origin start) (items start ++ l.fresh) s.homes s.views → At found
    left_there found is (inl home) =
        let own = l.each id v at in let x : V = home.0 in
        let g = given_is in (
          x,
          is (Some x) (ap (λ hs. get_elem? hs 0) home.1),
          record {
            fresh = l.fresh;
            history = home.2;
            source = home.3;
            own = zero_is.mine_is;
            seen = subst (λ (k : List T). Begins v.seen k) (sym home.2) own.seen_is;
            told = λ k e at_k. let ok = own.joined_are k e at_k in
                (ok.mine_is, subst (λ (k : List T). Begins e.seen k) (sym home.2) ok.seen_is);
            no_others = λ n past. l.unused n (omega arith);
          },
        )
    left_there found is (inr out) = absurd (no_turn out.1.0 out.1.1 out.1.2 out.1.3)

  pub left_behind : (id : ℕ) (v : View T O) → HasAll v → (ws : List ℕ) (xs : List (Option V))
      → Final (Seen L id v) ws xs
      → (found : Option V) → get_elem? xs 0 ≡ some found → (x : V) × (found ≡ Some x) × IsLeft items origin by start v x
  left_behind id v all ws xs end found at = let s = end.0 in
      left_there id v all s end.1.0 end.1.1 found (λ y home. some-injective found y (sym at ∙ end.4 0 y home))
      end.1.0.slot_is
