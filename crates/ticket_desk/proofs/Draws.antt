-- Drawing a ticket keeps the rule.
use Rattle.std.proofs.Common.{◌≡◌, ℕ, ◌+◌, ◌%◌, ◌<◌, ◌≤◌, false, cond, List, ◌++◌, set, slice_index, Option, Some, None, is_some, sym, refl, ap, ◌∙◌, subst, arith}
use mathlib.Core.Option.{none}
use Rattle.atomic_table.specs.Table.{Me, step, keeps, Allows}
use Rattle.ticket_desk.specs.declared.view.View.{View}
use Rattle.ticket_desk.specs.Views.{waiting, behind}
use Rattle.ticket_desk.specs.Rule.{ViewOk, Legal}
use Rattle.ticket_desk.specs.Steps.{Draws}
use Rattle.ticket_desk.proofs.Lists.{each_set, count_set, begins_itself}
use Rattle.ticket_desk.proofs.Views.{apart_set, slot_set, view_kept, waiting_few, false_true, some_none, some_same, no_less}
use Rattle.ticket_desk.proofs.Wraps.{drawn_last, drawn_next}

module _ {V T O : Type 0} (items : V → List T) (origin : V → O) (by : T → ℕ) (start : V) where
  pub draws : (slots id n : ℕ) (me : Me (Option V) (View T O)) → me.0.ticket ≡ None → me.0.turn ≡ false
      → me.0.number ≡ Some n
      → Allows (Legal items origin by start) slots id me 0 (λ x. (x + 1) % 18446744073709551616)
      (Draws (step slots 0 1 0 none) me)
  draws slots id n me free off numbered s l _ at _ =
      let found : ℕ = slice_index s.words 0 in
      let found_is : found ≡ l.drawn = ap (λ ws. slice_index ws 0) l.words_are in
      let w : View T O = record me.0 { ticket = Some found } in
      let q : ℕ = waiting s.views in let q' : ℕ = waiting (set s.views id w) in
      let log : List T = items start ++ l.fresh in
      let few : q ≤ 4096 = let k = waiting_few by (origin start) log l.fresh l.given l.owner l.served q s.views l.each
      in let f = l.few in omega arith in
      let last = drawn_last l.served q l.drawn l.served_fits few l.queue_is in
      let c = count_set (λ (v : View T O). is_some v.ticket) s.views id me.0 w at in
      let z : cond {A = ℕ} (is_some me.0.ticket) 1 0 ≡ 0 = ap (λ (o : Option ℕ). cond {A = ℕ} (is_some o) 1 0) free in
      let more : q' ≡ q + 1 = omega arith in
      let d = count_set (λ (v : View T O). is_some v.number) s.views id me.0 w at in
      let own = l.each id me.0 at in (
        w,
        keeps,
        tt,
        record {
          fresh = l.fresh;
          drawn = (l.drawn + 1) % 18446744073709551616;
          served = l.served;
          given = l.given;
          owner = l.owner;
          words_are = ap (λ ws. set ws 0 ((slice_index ws 0 + 1) % 18446744073709551616)) l.words_are;
          served_fits = l.served_fits;
          queue_is = drawn_next l.served q l.drawn l.queue_is ∙ ap (λ (k : ℕ). (l.served + k) % 18446744073709551616)
              (sym more);
          few = ((let f = l.few in omega arith), l.few.1);
          apart = apart_set s.views id w l.apart (λ j t x ne at_j has has_j.
              let same : t ≡ l.drawn = sym (some_same found t has) ∙ found_is in
              let near = ((l.each j x at_j).ticket_is t has_j).1 in
              no_less q (subst (λ (k : ℕ). k < q) (ap (behind l.served) same ∙ last.1) near));
          each = each_set (ViewOk by log l.fresh l.given l.owner (origin start) l.served q') s.views id w
              (record {
                ticket_is = λ t e. let same : l.drawn ≡ t = sym found_is ∙ some_same found t e in
                    subst (λ (k : ℕ). (k < 18446744073709551616) × (behind l.served k < q')) same
                    (last.0, (let b = last.1 in omega arith));
                note_is = λ e. absurd (some_none me.0.number n e numbered);
                number_is = λ m e. let k = own.number_is m e in
                    record { below = k.below; owned = k.owned; mine_is = k.mine_is; origin_is = k.origin_is };
                first_is = own.first_is;
                seen_is = own.seen_is;
                turn_is = λ on. absurd (false_true me.0.turn off on);
                joined_are = own.joined_are;
                heard_are = own.heard_are;
              })
              (λ j x ne at_j. let ok = l.each j x at_j in
              view_kept by (origin start) log log l.fresh l.fresh l.given l.given l.owner l.owner l.served l.served q q'
              j x ok
              (λ t e fits near. omega arith) (begins_itself log) ok.turn_is (λ m e lt ow. (lt, ow, refl)) ok.first_is
              (λ e t. t));
          unused = l.unused;
          slot_is = slot_set items origin (origin start) log s.homes s.views id me.0 w at refl l.slot_is;
        },
        refl,
      )
