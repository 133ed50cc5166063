-- Joining one pass into another keeps the rule.
use Rattle.std.proofs.Common.{◌≡◌, ℕ, suc, ◌+◌, ◌%◌, ◌≤◌, ◌≢◌, Bool, true, false, cond, eqb, List, ◌++◌, set, Option, Some, None, is_some, unwrap_or, sym, refl, ap, ◌∙◌, subst, inl, inr, eq-eqb, ne_eqb, arith}
use mathlib.Core.Option.{some}
use lib.ListN.{get_elem?}
use Rattle.atomic_table.specs.Table.{State, Joins}
use Rattle.atomic_table.proofs.Lists.{set_else}
use Rattle.ticket_desk.specs.declared.view.View.{View}
use Rattle.ticket_desk.specs.declared.view.Told.{Told}
use Rattle.ticket_desk.specs.Views.{EachAt, by_number, waiting, numbers}
use Rattle.ticket_desk.specs.Rule.{ToldOk, NumberOk, ViewOk, Legal}
use Rattle.ticket_desk.specs.Steps.{as_told, joined_with, spent_view}
use Rattle.ticket_desk.proofs.Lists.{each_set, each_cons, count_set, begins_itself}
use Rattle.ticket_desk.proofs.Views.{apart_same, slot_set, view_kept, not_true, some_none, two_seats}
use Rattle.ticket_desk.proofs.Notes.{spent_ok}

cond_zero : (b : Bool) (m : ℕ) → m ≡ 0 → cond b 0 m ≡ 0
cond_zero true m e = refl
cond_zero false m e = e

module _ {V T O : Type 0} (items : V → List T) (origin : V → O) (by : T → ℕ) (start : V) where
  abbrev L : State (Option V) (View T O) → Type 0
  L = Legal items origin by start

  module _ (id other n : ℕ) (v w : View T O) (numbered : w.number ≡ Some n) (free : w.ticket ≡ None)
      (s : State (Option V) (View T O)) (l : L s)
      (at : get_elem? s.views id ≡ some v) (ne_seats : other ≢ id)
      (at_mid : get_elem? (set s.views id (joined_with v w)) other ≡ some w) where
    abbrev log : List T
    log = items start ++ l.fresh

    abbrev both : View T O
    both = joined_with v w

    abbrev mid : List (View T O)
    mid = set s.views id both

    abbrev views : List (View T O)
    views = set mid other spent_view

    abbrev owner' : ℕ → ℕ
    owner' m = cond (eqb m n) 0 (l.owner m)

    at_other : get_elem? s.views other ≡ some w
    at_other = sym (set_else s.views id other both ne_seats) ∙ at_mid

    number_is : NumberOk by log l.fresh l.given l.owner (origin start) other w n
    number_is = (l.each other w at_other).number_is n numbered

    off : w.turn ≡ false
    off = not_true w.turn (λ on. some_none w.ticket l.served free ((l.each other w at_other).turn_is on).0)

    -- a number of another seat keeps its owner
    owner_old : (m j : ℕ) → j ≢ other → l.owner m ≡ suc j → owner' m ≡ suc j
    owner_old m j ne owned =
        ap (λ b. cond b 0 (l.owner m)) (ne_eqb m n (λ (e : m ≡ n).
        ne (two_seats (l.owner n) j other (subst (λ (k : ℕ). l.owner k ≡ suc j) e owned) number_is.owned)))
        ∙ owned

    wait : waiting views ≡ waiting s.views
    wait =
        let a = count_set (λ (u : View T O). is_some u.ticket) s.views id v both at in
        let b = count_set (λ (u : View T O). is_some u.ticket) mid other w spent_view at_mid in
        let z : cond {A = ℕ} (is_some w.ticket) 1 0 ≡ 0 = ap (λ (o : Option ℕ). cond {A = ℕ} (is_some o) 1 0) free in
        omega arith

    count : numbers views ≤ numbers s.views
    count =
        let a = count_set (λ (u : View T O). is_some u.number) s.views id v both at in
        let b = count_set (λ (u : View T O). is_some u.number) mid other w spent_view at_mid in omega arith

    told_on : (e : Told T) → ToldOk by log l.fresh l.given l.owner e → ToldOk by log l.fresh l.given owner' e
    told_on e ok = record {
      below = ok.below;
      gone = cond_zero (eqb e.number n) (l.owner e.number) ok.gone;
      mine_is =
          ok.mine_is;
      seen_is = ok.seen_is;
    }

    told_new : ToldOk by log l.fresh l.given owner' (as_told w)
    told_new =
        let same : unwrap_or w.number 0 ≡ n = ap (λ (o : Option ℕ). unwrap_or o 0) numbered in
        record {
          below = (let b = number_is.below in omega arith);
          gone = ap (λ b. cond b 0 (l.owner (unwrap_or w.number 0))) (eq-eqb (unwrap_or w.number 0) n same);
          mine_is = number_is.mine_is ∙ ap (λ (k : ℕ). by_number by k l.fresh) (sym same);
          seen_is = (l.each other w at_other).seen_is;
        }

    abbrev Ok : ℕ → View T O → Type 0
    Ok = ViewOk by log l.fresh l.given owner' (origin start) l.served (waiting s.views)

    both_ok : Ok id both
    both_ok = let own = l.each id v at in record {
      ticket_is = own.ticket_is;
      note_is = own.note_is;
      number_is = λ m e. let k = own.number_is m e in
          record {
            below = k.below;
            owned = owner_old m id (λ e. ne_seats (sym e)) k.owned;
            mine_is =
                k.mine_is;
            origin_is = k.origin_is;
          };
      first_is = own.first_is;
      seen_is = own.seen_is;
      turn_is = own.turn_is;
      joined_are = each_cons (λ _ e. ToldOk by log l.fresh l.given owner' e) (as_told w) v.joined told_new
          (λ k e at_k. told_on e (own.joined_are k e at_k));
      heard_are = own.heard_are;
    }

    other_ok : (j : ℕ) (u : View T O) → j ≢ other → get_elem? s.views j ≡ some u → Ok j u
    other_ok j u ne at_j =
        let ok = l.each j u at_j in
        view_kept by (origin start) log log l.fresh l.fresh l.given l.given l.owner owner' l.served l.served
        (waiting s.views) (waiting s.views) j u ok
        (λ t e fits near. near) (begins_itself log) ok.turn_is
        (λ m e below owned. (below, owner_old m j ne owned, refl)) ok.first_is told_on

    joined_on : L (record { words = s.words; homes = s.homes; views = views })
    joined_on = record {
      fresh = l.fresh;
      drawn = l.drawn;
      served = l.served;
      given = l.given;
      owner = owner';
      words_are = l.words_are;
      served_fits = l.served_fits;
      queue_is = l.queue_is ∙ ap (λ (k : ℕ). (l.served + k) % 18446744073709551616) (sym wait);
      few = ((let f = l.few in let c = count in omega arith), l.few.1);
      apart = apart_same mid other w spent_view at_mid (inr refl) (apart_same s.views id v both at (inl refl) l.apart);
      each = subst (λ (k : ℕ). EachAt (ViewOk by log l.fresh l.given owner' (origin start) l.served k) views) (sym wait)
          (each_set Ok mid other spent_view (spent_ok items origin by start log l.fresh l.given owner'
          (origin start) l.served (waiting s.views) other)
          (λ j u ne at_j. each_set (λ j u. j ≢ other → Ok j u) s.views id both (λ _. both_ok)
          (λ k x _ at_k ne_k. other_ok k x ne_k at_k) j u at_j ne));
      unused = l.unused;
      slot_is = slot_set items origin (origin start) log s.homes mid other w spent_view at_mid (sym off)
          (slot_set items origin (origin start) log s.homes s.views id v both at refl l.slot_is);
    }

  pub joins_pass : (id other n : ℕ) (v w : View T O) → w.number ≡ Some n → w.ticket ≡ None
      → Joins L id v other w (joined_with v w) spent_view
  joins_pass id other n v w numbered free s l at apart_seats at_mid =
      joined_on id other n v w numbered free s l at apart_seats at_mid
