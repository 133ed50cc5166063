-- Handing the turn on keeps the rule: the value's history is the whole history again.
use Rattle.std.proofs.Common.{◌≡◌, ℕ, suc, ◌+◌, ◌%◌, ◌≤◌, ◌≢◌, true, false, cond, List, [], ◌∷◌, ◌++◌, length, set, drop, Option, Some, is_some, sym, refl, ap, ◌∙◌, subst, inl, inr, append_assoc, arith}
use Rattle.std.proofs.lemmas.List.{append-nil}
use Rattle.std.proofs.Math.Seq.{drop-append_seam}
use mathlib.Core.Option.{none, some}
use lib.ListN.{get_elem?}
use Rattle.atomic_table.specs.Table.{State, Me, step, gives, stepped, put_back, rest, Allows}
use Rattle.ticket_desk.specs.declared.view.View.{View}
use Rattle.ticket_desk.specs.declared.view.Told.{Told}
use Rattle.ticket_desk.specs.Views.{Begins, by_number, waiting}
use Rattle.ticket_desk.specs.Rule.{ToldOk, ViewOk, Legal, SlotIs}
use Rattle.ticket_desk.specs.Steps.{HandsOn, after_turn}
use Rattle.ticket_desk.specs.Tables.{IsDone}
use Rattle.ticket_desk.proofs.Lists.{Own, own_added, by_both, each_set, count_set, begins_on, begins_itself}
use Rattle.ticket_desk.proofs.Views.{apart_same, view_kept, not_true, false_true, some_none, some_same, none_some, no_less, two_seats}
use Rattle.ticket_desk.proofs.Wraps.{served_next, nearer}

nothing_more : {T : Type 0} (by : T → ℕ) (m : ℕ) (fresh more : List T) → by_number by m more ≡ []
    → by_number by m (fresh ++ more) ≡ by_number by m fresh
nothing_more by m fresh more e = by_both by m fresh more ∙ ap (λ xs. by_number by m fresh ++ xs) e ∙ append-nil
    (by_number by m fresh)

module _ {V T O : Type 0} (items : V → List T) (origin : V → O) (by : T → ℕ) (start : V) where
  abbrev St : Type 0
  St = State (Option V) (View T O)

  abbrev M : Type 0
  M = Me (Option V) (View T O)

  abbrev L : St → Type 0
  L = Legal items origin by start

  module _ (id n t : ℕ) (me : M) (numbered : me.0.number ≡ Some n) (ticket : me.0.ticket ≡ Some t)
      (on : me.0.turn ≡ true)
      (x : V) (out : me.1 ≡ (0, Some x) ∷ []) (from : me.0.origin ≡ Some (origin x))
      (s : St) (l : L s) (at : get_elem? s.views id ≡ some me.0) (new : Own by n me.0.seen (items x)) where
    abbrev source : O
    source = origin start

    abbrev log : List T
    log = items start ++ l.fresh

    abbrev fresh' : List T
    fresh' = l.fresh ++ new.more

    abbrev log' : List T
    log' = items start ++ fresh'

    abbrev served' : ℕ
    served' = (l.served + 1) % 18446744073709551616

    abbrev w : View T O
    w = after_turn me.0 (items x)

    abbrev q : ℕ
    q = waiting s.views

    abbrev q' : ℕ
    q' = waiting (set s.views id w)

    seen_is : me.0.seen ≡ log
    seen_is = ((l.each id me.0 at).turn_is on).1

    served_is : me.0.ticket ≡ Some l.served
    served_is = ((l.each id me.0 at).turn_is on).0

    log_is : items x ≡ log'
    log_is = new.grows ∙ ap (λ k. k ++ new.more) seen_is ∙ append_assoc (items start) l.fresh new.more

    grows : Begins log log'
    grows = (new.more, sym (append_assoc (items start) l.fresh new.more))

    mine_is : me.0.mine ++ drop (length me.0.seen) (items x) ≡ by_number by n fresh'
    mine_is =
        ap (λ k. me.0.mine ++ k) (ap (λ k. drop (length me.0.seen) k) new.grows ∙ drop-append_seam me.0.seen new.more)
        ∙ ap (λ k. k ++ new.more) ((l.each id me.0 at).number_is n numbered).mine_is
        ∙ ap (λ k. by_number by n l.fresh ++ k) (sym new.own)
        ∙ sym (by_both by n l.fresh new.more)

    fewer : q' + 1 ≡ q
    fewer =
        let c = count_set (λ (v : View T O). is_some v.ticket) s.views id me.0 w at in
        let z : cond {A = ℕ} (is_some me.0.ticket) 1 0 ≡ 1 =
        ap (λ (o : Option ℕ). cond {A = ℕ} (is_some o) 1 0) ticket in omega arith

    other_turn : (j : ℕ) (u : View T O) → j ≢ id → get_elem? s.views j ≡ some u → u.turn ≡ true → ⊥
    other_turn j u ne at_j on_j = ne (l.apart j id l.served u me.0 at_j at ((l.each j u at_j).turn_is on_j).0 served_is)

    told_on : (e : Told T) → ToldOk by log l.fresh l.given l.owner e → ToldOk by log' fresh' l.given l.owner e
    told_on e ok =
        let owned = ((l.each id me.0 at).number_is n numbered).owned in
        let other : e.number ≢ n = λ (same : e.number ≡ n). let z : l.owner n ≡ 0 =
        subst (λ (k : ℕ). l.owner k ≡ 0) same ok.gone in no_less 0 (omega arith) in
        record {
          below = ok.below;
          gone = ok.gone;
          mine_is = ok.mine_is ∙ sym (nothing_more by e.number l.fresh new.more (new.others e.number other));
          seen_is = begins_on e.seen log log' ok.seen_is grows;
        }

    own_view : ViewOk by log' fresh' l.given l.owner source served' q' id w
    own_view = let own = l.each id me.0 at in record {
      ticket_is = λ k e. absurd (none_some k e);
      note_is = λ e. absurd (some_none me.0.number n e numbered);
      number_is = λ m e.
          let k = own.number_is n numbered in
          let same : n ≡ m = some_same n m (sym numbered ∙ e) in
          subst (λ (z : ℕ). Rattle.ticket_desk.specs.Rule.NumberOk by log' fresh' l.given l.owner source id w z) same
          (record { below = k.below; owned = k.owned; mine_is = mine_is; origin_is = k.origin_is });
      first_is = own.first_is;
      seen_is = subst (λ (k : List T). Begins (items x) k) log_is (begins_itself (items x));
      turn_is = λ e. absurd (false_true false refl e);
      joined_are = λ k e at_k. told_on e (own.joined_are k e at_k);
      heard_are = λ k xs at_k. begins_on xs log log' (own.heard_are k xs at_k) grows;
    }

    other_view : (j : ℕ) (u : View T O) → j ≢ id → get_elem? s.views j ≡ some u
        → ViewOk by log' fresh' l.given l.owner source served' q' j u
    other_view j u ne at_j =
        let ok = l.each j u at_j in
        let owned = ((l.each id me.0 at).number_is n numbered).owned in
        view_kept by source log log' l.fresh fresh' l.given l.given l.owner l.owner l.served served' q q' j u ok
        (λ k has fits near. nearer l.served k q q' l.served_fits fits
        (λ (same : k ≡ l.served). ne (l.apart j id k u me.0 at_j at has
        (served_is ∙ ap (λ (z : ℕ). Some z) (sym same)))) fewer near)
        grows
        (λ on_j. absurd (other_turn j u ne at_j on_j))
        (λ m has below owned_j. (
          below,
          owned_j,
          nothing_more by m l.fresh new.more (new.others m
              (λ (same : m ≡ n). ne (two_seats (l.owner n) j id
              (subst (λ (z : ℕ). l.owner z ≡ suc j) same owned_j) owned))),
        ))
        ok.first_is told_on

    unused' : (m : ℕ) → l.given ≤ m → by_number by m fresh' ≡ []
    unused' m past =
        let below = ((l.each id me.0 at).number_is n numbered).below in
        nothing_more by m l.fresh new.more (new.others m (λ (same : m ≡ n). no_less m (omega arith))) ∙ l.unused m past

    slot_home : SlotIs items origin source log s.homes s.views
        → SlotIs items origin source log' (put_back s.homes me.1) (set s.views id w)
    slot_home (inl home) = absurd (false_true me.0.turn (home.4 id me.0 at) on)
    slot_home (inr gone) = inl (
      x,
      ap (λ c. put_back s.homes c) out ∙ ap (λ hs. set hs 0 (some (Some x))) gone.0,
      log_is,
      some_same (origin x) source (sym from ∙ ((l.each id me.0 at).number_is n numbered).origin_is),
      each_set (λ _ (u : View T O). u.turn ≡ false) s.views id w refl
          (λ j u ne at_j. not_true u.turn (λ on_j. other_turn j u ne at_j on_j)),
    )

    handed_on : (next : ℕ) → next ≡ (t + 1) % 18446744073709551616 → L (stepped s 1 next id me.1 w gives)
    handed_on next is =
        let d = count_set (λ (v : View T O). is_some v.number) s.views id me.0 w at in
        let same : t ≡ l.served = some_same t l.served (sym ticket ∙ served_is) in
        let next_is : next ≡ served' = is ∙ ap (λ (k : ℕ). (k + 1) % 18446744073709551616) same in
        record {
          fresh = fresh';
          drawn = l.drawn;
          served = served';
          given = l.given;
          owner = l.owner;
          words_are = ap (λ ws. set ws 1 next) l.words_are ∙ ap (λ (k : ℕ). l.drawn ∷ k ∷ []) next_is;
          served_fits = omega arith;
          queue_is = served_next l.served q q' l.drawn fewer l.queue_is;
          few = ((let f = l.few in omega arith), l.few.1);
          apart = apart_same s.views id me.0 w at (inr refl) l.apart;
          each = each_set (ViewOk by log' fresh' l.given l.owner source served' q') s.views id w own_view other_view;
          unused = unused';
          slot_is = slot_home l.slot_is;
        }

  pub hands_on : (slots id n t next : ℕ) (me : M) → IsDone items origin by n t me
      → next ≡ (t + 1) % 18446744073709551616
      → Allows L slots id me 1 (λ _. next) (λ _. HandsOn items (step slots 1 next 0 none) me next)
  hands_on slots id n t next me done is s l _ at _ =
      let x : V = done.3.0 in let out : me.1 ≡ (0, Some x) ∷ [] = done.3.1 in (
        after_turn me.0 (items x),
        gives,
        tt,
        handed_on id n t me done.0 done.1 done.2 x out done.3.3 s l at
            (own_added by n me.0.seen (items x) done.3.2) next is,
        (x, out, λ k. (after_turn me.0 (items x), rest (out k))),
      )
