-- A note split off a view, and a note that is heard, keep the rule.
use Rattle.std.proofs.Common.{◌≡◌, ℕ, ◌+◌, ◌%◌, false, cond, List, [], ◌∷◌, ◌++◌, set, Option, None, is_some, sym, refl, ap, ◌∙◌, subst, inl, inr, arith}
use mathlib.Core.Option.{some}
use lib.ListN.{get_elem?}
use Rattle.atomic_table.specs.Table.{State, Splits, Joins}
use Rattle.atomic_table.proofs.Lists.{set_again, set_else}
use Rattle.ticket_desk.specs.declared.view.View.{View}
use Rattle.ticket_desk.specs.Views.{EachAt, Begins, waiting, numbers}
use Rattle.ticket_desk.specs.Rule.{ToldOk, ViewOk, Legal}
use Rattle.ticket_desk.specs.Steps.{note_of, heard_from, spent_view}
use Rattle.ticket_desk.specs.Turns.{Met}
use Rattle.ticket_desk.proofs.Lists.{each_set, each_push, each_cons, each_nil, count_set, count_push, begins_nil}
use Rattle.ticket_desk.proofs.Views.{apart_same, apart_push, slot_set, slot_push, not_true, false_true, some_none, none_some}

module _ {V T O : Type 0} (items : V → List T) (origin : V → O) (by : T → ℕ) (start : V) where
  abbrev L : State (Option V) (View T O) → Type 0
  L = Legal items origin by start

  pub splits_note : (id : ℕ) (v : View T O) → Splits L id v v (note_of v)
  splits_note id v s l at =
      let log : List T = items start ++ l.fresh in let note : View T O = note_of v in
      let views : List (View T O) = s.views ++ note ∷ [] in
      let wait : waiting views ≡ waiting s.views = let c =
      count_push (λ (u : View T O). is_some u.ticket) s.views note in omega arith in
      let count : numbers views ≡ numbers s.views = let c =
      count_push (λ (u : View T O). is_some u.number) s.views note in omega arith in
      let own = l.each id v at in
      let pushed : L (record { words = s.words; homes = s.homes; views = views }) = record {
        fresh = l.fresh;
        drawn = l.drawn;
        served = l.served;
        given = l.given;
        owner = l.owner;
        words_are = l.words_are;
        served_fits = l.served_fits;
        queue_is = l.queue_is ∙ ap (λ (k : ℕ). (l.served + k) % 18446744073709551616) (sym wait);
        few = ((let f = l.few in omega arith), l.few.1);
        apart = apart_push s.views note refl l.apart;
        each = subst (λ (k : ℕ). EachAt (ViewOk by log l.fresh l.given l.owner (origin start) l.served k) views)
            (sym wait)
            (each_push (ViewOk by log l.fresh l.given l.owner (origin start) l.served (waiting s.views)) s.views note
            l.each
            (record {
              ticket_is = λ t e. absurd (none_some t e);
              note_is = λ e. (refl, refl);
              number_is = λ n e. absurd (none_some n e);
              first_is = λ e. absurd (none_some 0 e);
              seen_is = own.seen_is;
              turn_is = λ e. absurd (false_true false refl e);
              joined_are = each_nil (λ _ e. ToldOk by log l.fresh l.given l.owner e);
              heard_are = each_nil (λ _ (xs : List T). Begins xs log);
            }));
        unused = l.unused;
        slot_is = slot_push items origin (origin start) log s.homes s.views note refl l.slot_is;
      } in
      subst L (λ k. record { words = s.words; homes = s.homes; views = sym (set_again s.views id v at) k ++ note ∷ [] })
      pushed

  -- what is left of a view that was joined away knows nothing
  pub spent_ok : (log fresh : List T) (given : ℕ) (owner : ℕ → ℕ) (source : O) (served queue i : ℕ)
      → ViewOk by log fresh given owner source served queue i (spent_view {T = T} {O = O})
  spent_ok log fresh given owner source served queue i = record {
    ticket_is = λ t e. absurd (none_some t e);
    note_is = λ e. (refl, refl);
    number_is = λ n e. absurd (none_some n e);
    first_is = λ e. absurd (none_some 0 e);
    seen_is = begins_nil log;
    turn_is = λ e. absurd (false_true false refl e);
    joined_are = each_nil (λ _ e. ToldOk by log fresh given owner e);
    heard_are = each_nil (λ _ (xs : List T). Begins xs log);
  }

  pub joins_note : (id other : ℕ) (v w : View T O) → w.number ≡ None → Joins L id v other w (heard_from v w) spent_view
  joins_note id other v w note s l at apart_seats at_set_other =
      let log : List T = items start ++ l.fresh in let both : View T O = heard_from v w in
      let at_other : get_elem? s.views other ≡ some w = sym
      (set_else s.views id other both apart_seats) ∙ at_set_other in
      let told = l.each other w at_other in let own = l.each id v at in
      let free : w.ticket ≡ None = (told.note_is note).0 in
      let off : w.turn ≡ false = not_true w.turn (λ on. some_none w.ticket l.served free (told.turn_is on).0) in
      let mid : List (View T O) = set s.views id both in
      let views : List (View T O) = set mid other spent_view in
      let wait : waiting views ≡ waiting s.views =
      let a = count_set (λ (u : View T O). is_some u.ticket) s.views id v both at in
      let b = count_set (λ (u : View T O). is_some u.ticket) mid other w spent_view at_set_other in
      let z : cond {A = ℕ} (is_some w.ticket) 1 0 ≡ 0 = ap (λ (o : Option ℕ). cond {A = ℕ} (is_some o) 1 0) free in
      omega arith in
      let count : numbers views ≡ numbers s.views =
      let a = count_set (λ (u : View T O). is_some u.number) s.views id v both at in
      let b = count_set (λ (u : View T O). is_some u.number) mid other w spent_view at_set_other in
      let z : cond {A = ℕ} (is_some w.number) 1 0 ≡ 0 = ap (λ (o : Option ℕ). cond {A = ℕ} (is_some o) 1 0) note in
      omega arith in
      let Ok : ℕ → View T O → Type 0 = ViewOk by log l.fresh l.given l.owner (origin start) l.served
      (waiting s.views) in
      record {
        fresh = l.fresh;
        drawn = l.drawn;
        served = l.served;
        given = l.given;
        owner = l.owner;
        words_are = l.words_are;
        served_fits = l.served_fits;
        queue_is = l.queue_is ∙ ap (λ (k : ℕ). (l.served + k) % 18446744073709551616) (sym wait);
        few = ((let f = l.few in omega arith), l.few.1);
        apart = apart_same mid other w spent_view at_set_other (inr refl)
            (apart_same s.views id v both at (inl refl) l.apart);
        each = subst (λ (k : ℕ). EachAt (ViewOk by log l.fresh l.given l.owner (origin start) l.served k) views)
            (sym wait)
            (each_set Ok mid other spent_view (spent_ok log l.fresh l.given l.owner (origin start) l.served
            (waiting s.views) other) (λ j u ne at_j.
            each_set Ok s.views id both
            (record {
              ticket_is = own.ticket_is;
              note_is = own.note_is;
              number_is = λ n e. let k = own.number_is n e in record
                  { below = k.below; owned = k.owned; mine_is = k.mine_is; origin_is = k.origin_is };
              first_is = own.first_is;
              seen_is = own.seen_is;
              turn_is = own.turn_is;
              joined_are = own.joined_are;
              heard_are = each_cons (λ _ (xs : List T). Begins xs log) w.seen v.heard told.seen_is own.heard_are;
            })
            (λ k x _ at_k. l.each k x at_k) j u at_j));
        unused = l.unused;
        slot_is = slot_set items origin (origin start) log s.homes mid other w spent_view at_set_other (sym off)
            (slot_set items origin (origin start) log s.homes s.views id v both at refl l.slot_is);
      }

module _ {T O : Type 0} where
  -- what a hearer knows after it heard a note and caught up
  pub meets : (v note a b : View T O) (told log : List T) → v.heard ≡ [] → note.seen ≡ told → a ≡ heard_from v note
      → b ≡ record a { seen = log; heard = [] } → Begins a.seen log → EachAt (λ _ xs. Begins xs log) a.heard
      → Met told v b
  meets v note a b told log none_heard told_is a_is b_is own heard =
      let e : b ≡ record v { seen = log; heard = [] } = b_is ∙ ap
      (λ (u : View T O). record u { seen = log; heard = [] }) a_is in
      let log_is : log ≡ b.seen = sym (ap (λ (u : View T O). u.seen) e) in
      let own' : Begins v.seen log = subst (λ (u : View T O). Begins u.seen log) a_is own in
      let heard' : EachAt (λ _ xs. Begins xs log) (note.seen ∷ v.heard) =
      subst (λ (u : View T O). EachAt (λ _ xs. Begins xs log) u.heard) a_is heard in (
        e ∙ (λ k. record v { seen = log_is k; heard = sym none_heard k }),
        subst (λ (k : List T). Begins v.seen k) log_is own',
        subst (λ (k : List T). Begins told k) log_is (subst (λ (k : List T). Begins k log) told_is
            (heard' 0 note.seen refl)),
      )
