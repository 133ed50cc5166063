-- Giving a number keeps the rule.
use Rattle.std.proofs.Common.{◌≡◌, ℕ, suc, ◌+◌, ◌%◌, ◌<◌, ◌≢◌, false, cond, eqb, List, [], ◌∷◌, ◌++◌, length, set, Option, Some, is_some, sym, refl, ap, ◌∙◌, subst, inl, eq-eqb, ne_eqb, length-set, arith}
use mathlib.Core.Option.{some}
use lib.ListN.{get_elem?}
use Rattle.atomic_table.specs.Table.{State, Splits}
use Rattle.ticket_desk.specs.declared.view.View.{View}
use Rattle.ticket_desk.specs.declared.view.Told.{Told}
use Rattle.ticket_desk.specs.Views.{EachAt, Begins, waiting, numbers}
use Rattle.ticket_desk.specs.Rule.{ToldOk, NumberOk, ViewOk, Legal}
use Rattle.ticket_desk.specs.Steps.{next_given, newly_given}
use Rattle.ticket_desk.proofs.Lists.{each_set, each_push, each_nil, count_set, count_push, begins_itself}
use Rattle.ticket_desk.proofs.Views.{apart_same, apart_push, slot_set, slot_push, view_kept, false_true, none_some, some_none, some_same, no_less, two_seats}

module _ {V T O : Type 0} (items : V → List T) (origin : V → O) (by : T → ℕ) (start : V) where
  abbrev L : State (Option V) (View T O) → Type 0
  L = Legal items origin by start

  module _ (id : ℕ) (v : View T O) (first : v.number ≡ Some 0) (room : v.given < 4096) (s : State (Option V) (View T O))
      (l : L s) (at : get_elem? s.views id ≡ some v) where
    abbrev log : List T
    log = items start ++ l.fresh

    abbrev left : View T O
    left = next_given v

    abbrev right : View T O
    right = newly_given v

    abbrev mid : List (View T O)
    mid = set s.views id left

    abbrev views : List (View T O)
    views = mid ++ right ∷ []

    abbrev given' : ℕ
    given' = suc l.given

    abbrev owner' : ℕ → ℕ
    owner' n = cond (eqb n l.given) (suc (length s.views)) (l.owner n)

    given_is : v.given ≡ l.given
    given_is = (l.each id v at).first_is first

    zero_is : NumberOk by log l.fresh l.given l.owner (origin start) id v 0
    zero_is = (l.each id v at).number_is 0 first

    owner_old : (n : ℕ) → n < l.given → owner' n ≡ l.owner n
    owner_old n lt = ap (λ b. cond b (suc (length s.views)) (l.owner n))
        (ne_eqb n l.given (λ (e : n ≡ l.given). no_less n (omega arith)))

    owner_new : owner' l.given ≡ suc (length s.views)
    owner_new = ap (λ b. cond b (suc (length s.views)) (l.owner l.given)) (eq-eqb l.given l.given refl)

    wait : waiting views ≡ waiting s.views
    wait =
        let a = count_set (λ (u : View T O). is_some u.ticket) s.views id v left at in
        let b = count_push (λ (u : View T O). is_some u.ticket) mid right in omega arith

    count : numbers views ≡ numbers s.views + 1
    count =
        let a = count_set (λ (u : View T O). is_some u.number) s.views id v left at in
        let b = count_push (λ (u : View T O). is_some u.number) mid right in omega arith

    told_on : (e : Told T) → ToldOk by log l.fresh l.given l.owner e → ToldOk by log l.fresh given' owner' e
    told_on e ok = record {
      below = (let b = ok.below in omega arith);
      gone = owner_old e.number ok.below ∙ ok.gone;
      mine_is = ok.mine_is;
      seen_is = ok.seen_is;
    }

    abbrev Ok : ℕ → View T O → Type 0
    Ok = ViewOk by log l.fresh given' owner' (origin start) l.served (waiting s.views)

    left_ok : Ok id left
    left_ok = let own = l.each id v at in record {
      ticket_is = own.ticket_is;
      note_is = own.note_is;
      number_is = λ n e. let k = own.number_is n e in
          record {
            below = (let b = k.below in omega arith);
            owned = owner_old n k.below ∙ k.owned;
            mine_is =
                k.mine_is;
            origin_is = k.origin_is;
          };
      first_is = λ e. ap suc given_is;
      seen_is = own.seen_is;
      turn_is = own.turn_is;
      joined_are = λ k e at_k. told_on e (own.joined_are k e at_k);
      heard_are = own.heard_are;
    }

    right_ok : Ok (length mid) right
    right_ok = let own = l.each id v at in record {
      ticket_is = λ t e. absurd (none_some t e);
      note_is = λ e. absurd (some_none (Some v.given) v.given e refl);
      number_is = λ n e. let same : l.given ≡ n = sym given_is ∙ some_same v.given n e in
          subst (λ (k : ℕ). NumberOk by log l.fresh given' owner' (origin start) (length mid) right k) same
          (record {
            below = omega arith;
            owned = owner_new ∙ ap suc (sym (length-set s.views id left));
            mine_is = sym (l.unused l.given (omega arith));
            origin_is = zero_is.origin_is;
          });
      first_is = λ e. let z : v.given ≡ 0 = some_same v.given 0 e in let b = zero_is.below in let g = given_is in
          absurd (no_less 0 (omega arith));
      seen_is = own.seen_is;
      turn_is = λ e. absurd (false_true false refl e);
      joined_are = each_nil (λ _ e. ToldOk by log l.fresh given' owner' e);
      heard_are = each_nil (λ _ (xs : List T). Begins xs log);
    }

    other_ok : (j : ℕ) (u : View T O) → j ≢ id → get_elem? s.views j ≡ some u → Ok j u
    other_ok j u ne at_j =
        let ok = l.each j u at_j in
        view_kept by (origin start) log log l.fresh l.fresh l.given given' l.owner owner' l.served l.served
        (waiting s.views) (waiting s.views) j u ok
        (λ t e fits near. near) (begins_itself log) ok.turn_is
        (λ n e below owned. (omega arith, owner_old n below ∙ owned, refl))
        (λ e. absurd (ne (two_seats (l.owner 0) j id (ok.number_is 0 e).owned zero_is.owned)))
        told_on

    given_on : L (record { words = s.words; homes = s.homes; views = views })
    given_on = record {
      fresh = l.fresh;
      drawn = l.drawn;
      served = l.served;
      given = given';
      owner = owner';
      words_are = l.words_are;
      served_fits = l.served_fits;
      queue_is = l.queue_is ∙ ap (λ (k : ℕ). (l.served + k) % 18446744073709551616) (sym wait);
      few = (
        (let f = l.few in let c = count in omega arith),
        (let g = given_is in omega arith),
      );
      apart = apart_push mid right refl (apart_same s.views id v left at (inl refl) l.apart);
      each = subst (λ (k : ℕ). EachAt (ViewOk by log l.fresh given' owner' (origin start) l.served k) views) (sym wait)
          (each_push Ok mid right (each_set Ok s.views id left left_ok other_ok) right_ok);
      unused = λ n past. l.unused n (omega arith);
      slot_is = slot_push items origin (origin start) log s.homes mid right refl
          (slot_set items origin (origin start) log s.homes s.views id v left at refl l.slot_is);
    }

  pub splits_number : (id : ℕ) (v : View T O) → v.number ≡ Some 0 → v.given < 4096
      → Splits L id v (next_given v) (newly_given v)
  splits_number id v first room s l at = given_on id v first room s l at
