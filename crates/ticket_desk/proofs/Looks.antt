-- Looking at the turns served keeps the rule, whether the ticket is served or not, and so does a look after a meeting.
use Rattle.std.proofs.Common.{◌≡◌, ℕ, ◌+◌, ◌%◌, ◌≢◌, true, false, cond, List, [], ◌++◌, set, slice_index, Option, Some, is_some, sym, refl, ap, ◌∙◌, subst, inl, inr, arith}
use mathlib.Core.Logic.{dite}
use mathlib.Core.Option.{none, some}
use native.Mathlib.Decide.{ℕ_discrete}
use lib.ListN.{get_elem?}
use Rattle.atomic_table.specs.Table.{State, Me, Act, Valid, step, keeps, takes, stepped, carried_after, Allows}
use Rattle.atomic_table.proofs.Lists.{set_again, set_here}
use Rattle.ticket_desk.specs.declared.view.View.{View}
use Rattle.ticket_desk.specs.Views.{EachAt, Begins, waiting}
use Rattle.ticket_desk.specs.Rule.{ToldOk, ViewOk, Legal, SlotIs}
use Rattle.ticket_desk.specs.Steps.{Looks, Catches}
use Rattle.ticket_desk.proofs.Lists.{get_within, one_there, each_set, each_nil, count_set, begins_itself}
use Rattle.ticket_desk.proofs.Views.{apart_same, slot_set, false_true, some_same}

module _ {V T O : Type 0} (items : V → List T) (origin : V → O) (by : T → ℕ) (start : V) where
  abbrev St : Type 0
  St = State (Option V) (View T O)

  abbrev M : Type 0
  M = Me (Option V) (View T O)

  abbrev L : St → Type 0
  L = Legal items origin by start

  -- a load that finds nothing to do
  unmoved : (s : St) → L s → (id : ℕ) (me : M) → get_elem? s.views id ≡ some me.0
      → L (stepped s 1 (slice_index s.words 1) id me.1 me.0 keeps)
  unmoved s l id me at =
      let same_words : s.words ≡ set s.words 1 (slice_index s.words 1) =
      l.words_are ∙ sym (ap (λ (ws : List ℕ). set ws 1 (slice_index ws 1)) l.words_are) in
      let same_views = set_again s.views id me.0 at in
      subst L (λ k. record { words = same_words k; homes = s.homes; views = sym same_views k }) l

  -- a view that keeps its ticket and number, but sees the whole history, keeps the rule
  sees_all : (s : St) (l : L s) (id : ℕ) (v w : View T O) → get_elem? s.views id ≡ some v
      → w.ticket ≡ v.ticket → w.number ≡ v.number → w.mine ≡ v.mine → w.origin ≡ v.origin → w.given ≡ v.given
      → w.joined ≡ v.joined
      → EachAt (λ _ xs. Begins xs (items start ++ l.fresh)) w.heard → w.seen ≡ items start ++ l.fresh
      → (w.turn ≡ true → w.ticket ≡ Some l.served)
      → (homes : _) → SlotIs items origin (origin start) (items start ++ l.fresh) homes (set s.views id w)
      → L (record { words = set s.words 1 (slice_index s.words 1); homes = homes; views = set s.views id w })
  sees_all s l id v w at ticket number mine from given joined heard seen on homes slot =
      let q : ℕ = waiting s.views in let q' : ℕ = waiting (set s.views id w) in
      let log : List T = items start ++ l.fresh in
      let c = count_set (λ (v : View T O). is_some v.ticket) s.views id v w at in
      let tc : cond {A = ℕ} (is_some w.ticket) 1 0 ≡ cond {A = ℕ} (is_some v.ticket) 1 0 =
      ap (λ (o : Option ℕ). cond {A = ℕ} (is_some o) 1 0) ticket in
      let d = count_set (λ (v : View T O). is_some v.number) s.views id v w at in
      let dc : cond {A = ℕ} (is_some w.number) 1 0 ≡ cond {A = ℕ} (is_some v.number) 1 0 =
      ap (λ (o : Option ℕ). cond {A = ℕ} (is_some o) 1 0) number in
      let same : q' ≡ q = omega arith in
      let own = l.each id v at in
      record {
        fresh = l.fresh;
        drawn = l.drawn;
        served = l.served;
        given = l.given;
        owner = l.owner;
        words_are = ap (λ (ws : List ℕ). set ws 1 (slice_index ws 1)) l.words_are;
        served_fits = l.served_fits;
        queue_is = l.queue_is ∙ ap (λ (k : ℕ). (l.served + k) % 18446744073709551616) (sym same);
        few = ((let f = l.few in omega arith), l.few.1);
        apart = apart_same s.views id v w at (inl ticket) l.apart;
        each = subst (λ (k : ℕ). EachAt (ViewOk by log l.fresh l.given l.owner (origin start) l.served k)
            (set s.views id w)) (sym same)
            (each_set (ViewOk by log l.fresh l.given l.owner (origin start) l.served q) s.views id w
            (record {
              ticket_is = λ t e. own.ticket_is t (sym ticket ∙ e);
              note_is = λ e. let k = own.note_is (sym number ∙ e) in (ticket ∙ k.0, mine ∙ k.1);
              number_is = λ n e. let k = own.number_is n (sym number ∙ e) in
                  record {
                    below = k.below;
                    owned = k.owned;
                    mine_is = mine ∙ k.mine_is;
                    origin_is =
                        from ∙ k.origin_is;
                  };
              first_is = λ e. given ∙ own.first_is (sym number ∙ e);
              seen_is = subst (λ (k : List T). Begins k log) (sym seen) (begins_itself log);
              turn_is = λ e. (on e, seen);
              joined_are = subst (λ k. EachAt (λ _ e. ToldOk by log l.fresh l.given l.owner e) k)
                  (sym joined) own.joined_are;
              heard_are = heard;
            })
            (λ j x ne at_j. l.each j x at_j));
        unused = l.unused;
        slot_is = slot;
      }

  module _ (slots id n t : ℕ) (me : M) (numbered : me.0.number ≡ Some n) (ticket : me.0.ticket ≡ Some t)
      (off : me.0.turn ≡ false) (s : St) (l : L s) (at : get_elem? s.views id ≡ some me.0) where
    abbrev Seen : Type 0
    Seen = (w : View T O) × (a : Act (Option V)) × Valid s.homes me.1 a
        × L (stepped s 1 (slice_index s.words 1) id me.1 w a)
        × Looks items origin (step slots 1 0 0 none) me (slice_index s.words 1) (w, carried_after me.1 a)

    served_is : slice_index s.words 1 ≡ l.served
    served_is = ap (λ (ws : List ℕ). slice_index ws 1) l.words_are

    now_served : slice_index s.words 1 ≡ t → me.0.ticket ≡ Some l.served
    now_served served = ticket ∙ ap (λ (k : ℕ). Some k) (sym served ∙ served_is)

    hit : slice_index s.words 1 ≡ t → SlotIs items origin (origin start) (items start ++ l.fresh) s.homes s.views → Seen
    hit served (inl home) =
        let x : V = home.0 in
        let w : View T O = record me.0 { turn = true; seen = items x } in
        let own = l.each id me.0 at in
        let from = (own.number_is n numbered).origin_is in (
          w,
          takes 0 (Some x),
          ap (λ hs. get_elem? hs 0) home.1,
          sees_all s l id me.0 w at refl refl refl refl refl refl own.heard_are home.2 (λ _. now_served served)
              (set s.homes 0 none)
              (inr (
                ap (λ hs. set hs 0 none) home.1,
                (
                  id,
                  w,
                  set_here s.views id w (get_within s.views id me.0 at).0,
                  refl,
                ),
              )),
          (
            (λ _. (
              x,
              refl,
              (
                subst (λ (k : List T). Begins me.0.seen k) (sym home.2) own.seen_is,
                from ∙ ap (λ (k : O). Some k) (sym home.3),
              ),
            )),
            λ other. absurd (other (ticket ∙ ap (λ (k : ℕ). Some k) (sym served))),
          ),
        )
    hit served (inr out) =
        let i : ℕ = out.1.0 in let u : View T O = out.1.1 in
        let holds = ((l.each i u out.1.2).turn_is out.1.3).0 in
        let same : i ≡ id = l.apart i id l.served u me.0 out.1.2 at holds (now_served served) in
        let is : u ≡ me.0 = one_there s.views id u me.0 (subst (λ (k : ℕ). get_elem? s.views k ≡ some u) same out.1.2)
        at in
        absurd (false_true me.0.turn off (sym (ap (λ (y : View T O). y.turn) is) ∙ out.1.3))

    miss : slice_index s.words 1 ≢ t → Seen
    miss other = (
      me.0,
      keeps,
      tt,
      unmoved s l id me at,
      ((λ e. absurd (other (some_same _ _ (sym e ∙ ticket)))), λ _. refl),
    )

    looked : Seen
    looked = dite (ℕ_discrete (slice_index s.words 1) t) (λ e. hit e l.slot_is) miss

  pub looks : (slots id n t : ℕ) (me : M) → me.0.number ≡ Some n → me.0.ticket ≡ Some t → me.0.turn ≡ false
      → Allows L slots id me 1 (λ x. x) (Looks items origin (step slots 1 0 0 none) me)
  looks slots id n t me numbered ticket off s l _ at _ = looked slots id n t me numbered ticket off s l at

  pub catches : (slots id : ℕ) (me : M) → Allows L slots id me 1 (λ x. x) (Catches (step slots 1 0 0 none) me)
  catches slots id me s l _ at _ =
      let log : List T = items start ++ l.fresh in let w : View T O = record me.0 { seen = log; heard = [] } in
      let own = l.each id me.0 at in (
        w,
        keeps,
        tt,
        sees_all s l id me.0 w at refl refl refl refl refl refl (each_nil (λ _ (xs : List T). Begins xs log)) refl
            (λ on. (own.turn_is on).0) s.homes
            (slot_set items origin (origin start) log s.homes s.views id me.0 w at refl l.slot_is),
        (log, refl, own.seen_is, own.heard_are),
      )
