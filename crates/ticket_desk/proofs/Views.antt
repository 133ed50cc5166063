-- What a step leaves as it was: views, the slot, and that tickets are apart.
use Rattle.std.proofs.Common.{◌≡◌, ℕ, suc, ◌<◌, ◌≤◌, ◌≢◌, ◌⊎◌, Bool, true, false, List, [], ◌∷◌, ◌++◌, length, set, Option, Some, None, is_some, sym, refl, ap, ◌∙◌, subst, inl, inr, ⊎_elim, arith}
use mathlib.Core.Logic.{dite}
use mathlib.Core.Option as maybe
use mathlib.Core.Option.{none, some, some-injective, some-ne-none}
use native.Mathlib.Decide.{ℕ_discrete}
use lib.ListN.{get_elem?}
use Rattle.atomic_table.proofs.Lists.{at_set, set_here, set_else, at_longer}
use Rattle.ticket_desk.specs.declared.view.View.{View}
use Rattle.ticket_desk.specs.declared.view.Told.{Told}
use Rattle.ticket_desk.specs.Views.{EachAt, Begins, by_number, waiting, numbers, Apart, behind}
use Rattle.ticket_desk.specs.Rule.{ToldOk, ViewOk, SlotIs}
use Rattle.ticket_desk.proofs.Lists.{get_within, one_there, at_end, each_set, each_push, begins_on, count_le}

pub not_true : (b : Bool) → (b ≡ true → ⊥) → b ≡ false
not_true false h = refl
not_true true h = absurd (h refl)

pub false_true : (b : Bool) → b ≡ false → b ≡ true → ⊥
false_true b f t = cc

pub some_same : {A : Type 0} (a b : A) → Some a ≡ Some b → a ≡ b
some_same a b e = cc

pub none_some : {A : Type 0} (a : A) → None ≡ Some a → ⊥
none_some a e = cc

pub no_less : (n : ℕ) → n < n → ⊥
no_less n h = omega arith

pub two_seats : (a b c : ℕ) → a ≡ suc b → a ≡ suc c → b ≡ c
two_seats a b c e f = omega arith

pub some_none : (o : Option ℕ) (n : ℕ) → o ≡ None → o ≡ Some n → ⊥
some_none o n e f = cc

numbered_with_ticket : (o t : Option ℕ) → (o ≡ None → t ≡ None) → is_some t ≡ true → is_some o ≡ true
numbered_with_ticket (Some n) t h e = refl
numbered_with_ticket None t h e = let k : is_some {T = ℕ} None ≡ true =
    subst (λ (z : Option ℕ). is_some z ≡ true) (h refl) e in absurd (false_true false refl k)

pub number_there : (o : Option ℕ) → (o ≡ None → ⊥) → (n : ℕ) × (o ≡ Some n)
number_there (Some n) h = (n, refl)
number_there None h = absurd (h refl)

module _ {T O : Type 0} where
  pub apart_set : (l : List (View T O)) (id : ℕ) (w : View T O) → Apart l
      → ((j t : ℕ) (x : View T O) → j ≢ id → get_elem? l j ≡ some x → w.ticket ≡ Some t → x.ticket ≡ Some t → ⊥)
      → Apart (set l id w)
  apart_set l id w old conflict i j t v x at_i at_j has_i has_j = ⊎_elim
      (λ (a : (i ≡ id) × (w ≡ v)). ⊎_elim
      (λ (b : (j ≡ id) × (w ≡ x)). a.0 ∙ sym b.0)
      (λ (b : (j ≢ id) × (get_elem? l j ≡ some x)). absurd
      (conflict j t x b.0 b.1 (ap (λ (y : View T O). y.ticket) a.1 ∙ has_i) has_j))
      (at_set l id j w x at_j))
      (λ (a : (i ≢ id) × (get_elem? l i ≡ some v)). ⊎_elim
      (λ (b : (j ≡ id) × (w ≡ x)). absurd (conflict i t v a.0 a.1 (ap (λ (y : View T O). y.ticket) b.1 ∙ has_j) has_i))
      (λ (b : (j ≢ id) × (get_elem? l j ≡ some x)). old i j t v x a.1 b.1 has_i has_j)
      (at_set l id j w x at_j))
      (at_set l id i w v at_i)

  -- a view that keeps its ticket, or gives it up, keeps the tickets apart
  pub apart_same : (l : List (View T O)) (id : ℕ) (v w : View T O) → get_elem? l id ≡ some v
      → (w.ticket ≡ v.ticket) ⊎ (w.ticket ≡ None) → Apart l → Apart (set l id w)
  apart_same l id v w at same old = apart_set l id w old (λ j t x ne at_j has has_j. ⊎_elim
      (λ (e : w.ticket ≡ v.ticket). ne (old j id t x v at_j at has_j (sym e ∙ has)))
      (λ (e : w.ticket ≡ None). some_none w.ticket t e has) same)

  pub apart_push : (l : List (View T O)) (w : View T O) → w.ticket ≡ None → Apart l → Apart (l ++ w ∷ [])
  apart_push l w free old i j t v x at_i at_j has_i has_j = ⊎_elim
      (λ (a : get_elem? l i ≡ some v). ⊎_elim
      (λ (b : get_elem? l j ≡ some x). old i j t v x a b has_i has_j)
      (λ (b : (j ≡ length l) × (w ≡ x)). absurd (some_none w.ticket t free
      (ap (λ (y : View T O). y.ticket) b.1 ∙ has_j)))
      (at_end l w x j at_j))
      (λ (a : (i ≡ length l) × (w ≡ v)). absurd (some_none w.ticket t free
      (ap (λ (y : View T O). y.ticket) a.1 ∙ has_i)))
      (at_end l w v i at_i)

  module _ {V : Type 0} (items : V → List T) (origin : V → O) (source : O) (log : List T)
      (homes : List (maybe.Option (Option V))) where
    pub slot_set : (l : List (View T O)) (id : ℕ) (v w : View T O) → get_elem? l id ≡ some v → w.turn ≡ v.turn
        → SlotIs items origin source log homes l → SlotIs items origin source log homes (set l id w)
    slot_set l id v w at same (inl home) = inl (
      home.0,
      home.1,
      home.2,
      home.3,
      each_set (λ _ (u : View T O). u.turn ≡ false) l id w (same ∙ home.4 id v at) (λ j x ne at_j. home.4 j x at_j),
    )
    slot_set l id v w at same (inr out) = dite (ℕ_discrete out.1.0 id)
        (λ e. inr (
          out.0,
          (
            id,
            w,
            set_here l id w (get_within l id v at).0,
            same ∙ ap (λ (u : View T O). u.turn) (one_there l id v out.1.1 at
                (subst (λ (k : ℕ). get_elem? l k ≡ some out.1.1) e out.1.2)) ∙ out.1.3,
          ),
        ))
        (λ ne. inr (out.0, (out.1.0, out.1.1, set_else l id out.1.0 w ne ∙ out.1.2, out.1.3)))

    pub slot_push : (l : List (View T O)) (w : View T O) → w.turn ≡ false → SlotIs items origin source log homes l
        → SlotIs items origin source log homes (l ++ w ∷ [])
    slot_push l w off (inl home) = inl (
      home.0,
      home.1,
      home.2,
      home.3,
      each_push (λ _ (u : View T O). u.turn ≡ false) l w home.4 off,
    )
    slot_push l w off (inr out) = inr (out.0, (out.1.0, out.1.1, at_longer l (w ∷ []) out.1.0 out.1.1 out.1.2, out.1.3))

module _ {T O : Type 0} (by : T → ℕ) (source : O) (log log' fresh fresh' : List T) (given given' : ℕ)
    (owner owner' : ℕ → ℕ) (served served' queue queue' : ℕ) where
  pub view_kept : (i : ℕ) (v : View T O) → ViewOk by log fresh given owner source served queue i v
      → ((t : ℕ) → v.ticket ≡ Some t → t < 18446744073709551616 → behind served t < queue → behind served' t < queue')
      → Begins log log'
      → (v.turn ≡ true → (v.ticket ≡ Some served') × (v.seen ≡ log'))
      → ((n : ℕ) → v.number ≡ Some n → n < given → owner n ≡ suc i
      → (n < given') × (owner' n ≡ suc i) × (by_number by n fresh' ≡ by_number by n fresh))
      → (v.number ≡ Some 0 → v.given ≡ given')
      → ((e : Told T) → ToldOk by log fresh given owner e → ToldOk by log' fresh' given' owner' e)
      → ViewOk by log' fresh' given' owner' source served' queue' i v
  view_kept i v ok nearer grows on number first told = record {
    ticket_is = λ t e. let k = ok.ticket_is t e in (k.0, nearer t e k.0 k.1);
    note_is = ok.note_is;
    number_is = λ n e. let k = ok.number_is n e in let m = number n e k.below k.owned in
        record { below = m.0; owned = m.1; mine_is = k.mine_is ∙ sym m.2; origin_is = k.origin_is };
    first_is = first;
    seen_is = begins_on v.seen log log' ok.seen_is grows;
    turn_is = on;
    joined_are = λ k e at. told e (ok.joined_are k e at);
    heard_are = λ k xs at. begins_on xs log log' (ok.heard_are k xs at) grows;
  }

-- of n views with a number, no more than n hold a ticket
pub waiting_few : {T O : Type 0} (by : T → ℕ) (source : O) (log fresh : List T) (given : ℕ) (owner : ℕ → ℕ)
    (served queue : ℕ) (l : List (View T O))
    → EachAt (ViewOk by log fresh given owner source served queue) l → waiting l ≤ numbers l
waiting_few {T} {O} by source log fresh given owner served queue l each =
    count_le (λ (v : View T O). is_some v.ticket) (λ (v : View T O). is_some v.number) l
    (λ i v at has. numbered_with_ticket v.number v.ticket (λ e. ((each i v at).note_is e).0) has)
