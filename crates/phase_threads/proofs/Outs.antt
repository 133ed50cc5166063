-- The actors have done their lines.
use Rattle.std.proofs.Common.{◌≡◌, inl, ℕ, zero, suc, ◌+◌, ◌<◌, Bool, true, false, List, [], ◌∷◌, length, map, get_or, Some, refl, sym, ap, subst, ◌∙◌, arith}
use Rattle.std.specs.List.{slice_get, list_any}
use Rattle.std.proofs.lemmas.List.{append-nil, length-map}
use Rattle.std.proofs.lemmas.Option.{slice_get-get_or, slice_get_within}
use Rattle.atomic_table.specs.Seated.{TableId}
use Rattle.bbs_board.specs.View.{View}
use Rattle.bbs_model.specs.PortView.{PortView}
use Rattle.bbs_model.specs.declared.item.Item.{Item}
use Rattle.bbs_shared.specs.Passes.{seen_by, IsSame}
use Rattle.bbs_shared.specs.Sharings.{whole_view, AreHanded}
use Rattle.bbs_shared.specs.declared.origin.Origin.{Origin}
use Rattle.crash_backoff.specs.declared.moment.Moment.{Moment}
use Rattle.scenario_lines.specs.declared.answered.Answered.{Answered}
use Rattle.scenario_lines.specs.declared.script.Line.{Line}
use Rattle.ticket_desk.specs.Passes.{IsPass}
use Rattle.ticket_desk.specs.declared.pass.Pass.{Pass}
use Rattle.ticket_desk.proofs.Public.{pass_stays}
use Rattle.phase_actors.specs.Runs.{IsOneActor}
use Rattle.phase_actors.specs.Turns.{actor_standing, turns_in, CanDo, IsCutAt, IsCutShort, Takes, Turn}
use Rattle.phase_actors.specs.declared.actor_state.ActorState.{ActorState}
use Rattle.phase_runs.specs.Actors.{AreSameActors, CanAllDo}
use Rattle.phase_runs.proofs.Public.{one_of, same_as}
use Rattle.phase_threads.specs.Acting.{ActsOut, HasActedOut, IsReady}
use Rattle.phase_threads.specs.Sharing.{AreBack, AreOwn, AtEach, HaveRun, IsOut, IsOwn, IsSet, IsUnused, WereCut}
use Rattle.phase_threads.specs.declared.acting.Acting.{Acting}
use Rattle.phase_threads.proofs.Pairs.{as_elem, as_slice, image_at, none_has, stands}

-- lines that were all done were done up to their end
pub all_done : (by : ℕ) (now : Moment) (lines : List Line) (a a' : ActorState) (v w : PortView)
    (answers : List Answered)
    → Takes by now (turns_in by lines) (actor_standing a v []) (actor_standing a' w answers)
    → IsCutShort by now (turns_in by lines) a v a' w
all_done by now lines a a' v w answers takes = record {
  done = turns_in by lines;
  rest = [];
  split = sym (append-nil (turns_in by lines));
  new = takes.new;
  mid = a';
  middle = w;
  taken = takes.taken;
  cut = (refl, refl);
}

-- whatever became of them, they were done up to some place
pub acted_cut : (now : Moment) (lines : List Line) (by : ℕ) (a a' : ActorState) (v w : PortView)
    (answers : List Answered) (starved : Bool)
    → HasActedOut now lines by a v a' w answers starved → IsCutShort by now (turns_in by lines) a v a' w
acted_cut now lines by a a' v w answers false acted = all_done by now lines a a' v w answers (acted.whole refl)
acted_cut now lines by a a' v w answers true acted = acted.cut refl

module _ {V S D P : Type 0} (pass_of : P → Pass V Item (Origin S)) (board : View D) (z : TableId) (many : ℕ)
    (now : Moment) (lines : List Line)
    (olds : List ActorState) where
  module _ (all : List (Acting P)) (set : AtEach (IsSet pass_of board z many) olds all) where
    -- each may begin
    pub each_ready : CanAllDo lines olds → (k : ℕ) (d : Acting P) → k < length all
        → IsReady (λ p. (pass_of p).number) lines (get_or all k d)
    each_ready can k d within =
        let x = get_or all k d in
        let here : k < length olds = omega (arith, within, set.length_is) in
        let there = stands olds k here in
        let is = set.at k there.0 x there.1 (slice_get-get_or all k d within) in
        record {
          number = is.own.pass.number ∙ sym is.by;
          can = subst (λ (n : ℕ). CanDo n lines x.actor) (sym is.by)
              (subst (CanDo (suc k) lines) (sym is.actor) (can k there.0 there.1));
          none = is.none;
        }

    module _ (after : List (Acting P)) (count : length after ≡ length all)
        (acts : (k : ℕ) (d : Acting P) → k < length all
        → ActsOut (λ p. seen_by (pass_of p)) (λ p q. IsSame (pass_of p) (pass_of q)) now lines (get_or all k d)
        (get_or after k d)) where
      out_at : (k : ℕ) (a : ActorState) (x y : Acting P) → IsSet pass_of board z many k a x
          → ActsOut (λ p. seen_by (pass_of p)) (λ p q. IsSame (pass_of p) (pass_of q)) now lines x y
          → IsOut pass_of board z many now lines k a y
      out_at k a x y set_is out = record {
        pass = pass_stays z many (suc k) (pass_of x.port) (pass_of y.port) out.keeps.pass set_is.own.pass;
        acted =
            subst (λ (n : ℕ). HasActedOut now lines n a (whole_view board) y.actor
            (seen_by (pass_of y.port)) y.part.items y.starved) set_is.by
            (subst (λ (b : ActorState). HasActedOut now lines x.by b (whole_view board) y.actor
            (seen_by (pass_of y.port)) y.part.items y.starved) set_is.actor
            (subst (λ (v : PortView). HasActedOut now lines x.by x.actor v y.actor
            (seen_by (pass_of y.port)) y.part.items y.starved) set_is.own.seen
            out.acted));
      }

      -- each has done its lines
      pub each_out : AtEach (IsOut pass_of board z many now lines) olds after
      each_out = record {
        length_is = count ∙ set.length_is;
        at = λ k a y is there.
            let within : k < length all = omega (arith, slice_get_within olds k a is, set.length_is) in
            let x = get_or all k y in
            let y_is : get_or after k y ≡ y =
            one_of (slice_get after k) (get_or after k y) y (slice_get-get_or after k y (omega (arith, within, count)))
            there in
            out_at k a x y (set.at k a x is (slice_get-get_or all k y within))
            (subst (ActsOut (λ p. seen_by (pass_of p)) (λ p q. IsSame (pass_of p) (pass_of q)) now lines x) y_is
            (acts k y within));
      }

  module _ (after : List (Acting P)) (out : AtEach (IsOut pass_of board z many now lines) olds after)
      (first : Pass V Item (Origin S)) (news : List ActorState)
      (news_are : news ≡ map (λ (x : Acting P). x.actor) after)
      (passes : List (Pass V Item (Origin S))) (own : IsPass z many 0 first)
      (passes_are : passes ≡ first ∷ map (λ (x : Acting P). pass_of x.port) after) where
    inside : (k : ℕ) (a : ActorState) → slice_get olds k ≡ Some a → k < length after
    inside k a is = omega (arith, slice_get_within olds k a is, out.length_is)

    abbrev acting_at : (k : ℕ) (a : ActorState) → slice_get olds k ≡ Some a → Acting P
    acting_at k a is = (stands after k (inside k a is)).0

    at_it : (k : ℕ) (a : ActorState) (is : slice_get olds k ≡ Some a) → slice_get after k ≡ Some (acting_at k a is)
    at_it k a is = (stands after k (inside k a is)).1

    out_is : (k : ℕ) (a : ActorState) (is : slice_get olds k ≡ Some a)
        → IsOut pass_of board z many now lines k a (acting_at k a is)
    out_is k a is = out.at k a (acting_at k a is) is (at_it k a is)

    new_is : (k : ℕ) (a a' : ActorState) (is : slice_get olds k ≡ Some a) → slice_get news k ≡ Some a'
        → (acting_at k a is).actor ≡ a'
    new_is k a a' is new =
        image_at after (λ (x : Acting P). x.actor) k (acting_at k a is) a' (at_it k a is)
        (sym (ap (λ l. slice_get l k) news_are) ∙ new)

    pass_is : (k : ℕ) (a : ActorState) (p : Pass V Item (Origin S)) (is : slice_get olds k ≡ Some a)
        → slice_get passes (suc k) ≡ Some p
        → pass_of (acting_at k a is).port ≡ p
    pass_is k a p is has =
        image_at after (λ (x : Acting P). pass_of x.port) k (acting_at k a is) p (at_it k a is)
        (sym (ap (λ l. slice_get l (suc k)) passes_are) ∙ has)

    all_same : AreSameActors olds news
    all_same = record {
      length_is = ap length news_are ∙ length-map after (λ (x : Acting P). x.actor) ∙ out.length_is;
      one = λ k a a' is new. subst (IsOneActor a) (new_is k a a' is new) (out_is k a is).acted.one;
    }

    -- where none wanted memory all did all of their lines
    pub have_run : list_any (λ (x : Acting P). x.starved) after ≡ false → (parts : List (List Answered))
        → parts ≡ map (λ (x : Acting P). x.part.items) after → HaveRun board now lines olds news parts passes
    have_run fed parts parts_are = record {
      parts_are = ap length parts_are ∙ length-map after (λ (x : Acting P). x.part.items) ∙ out.length_is;
      same = all_same;
      ran = λ k a a' answers p is new part has.
          let x = acting_at k a is in
          let part_is : x.part.items ≡ answers =
          image_at after (λ (y : Acting P). y.part.items) k x answers (at_it k a is)
          (sym (ap (λ l. slice_get l k) parts_are) ∙ part) in
          let fed_is : x.starved ≡ false = none_has (λ (y : Acting P). y.starved) after k x fed (at_it k a is) in
          subst (λ b. Takes (suc k) now (turns_in (suc k) lines) (actor_standing a (whole_view board) [])
          (actor_standing b (seen_by p) answers)) (new_is k a a' is new)
          (subst (λ (q : Pass V Item (Origin S)). Takes (suc k) now (turns_in (suc k) lines)
          (actor_standing a (whole_view board) []) (actor_standing x.actor (seen_by q) answers))
          (pass_is k a p is has)
          (subst (λ l. Takes (suc k) now (turns_in (suc k) lines) (actor_standing a (whole_view board) [])
          (actor_standing x.actor (seen_by (pass_of x.port)) l)) part_is
          ((out_is k a is).acted.whole fed_is)));
    }

    -- each did its lines up to some place
    pub were_cut : WereCut board now lines olds passes
    were_cut = record {
      news = news;
      same = all_same;
      cut = λ k a a' p is new has.
          let x = acting_at k a is in
          subst (λ b. IsCutShort (suc k) now (turns_in (suc k) lines) a (whole_view board) b (seen_by p))
          (new_is k a a' is new)
          (subst (λ (q : Pass V Item (Origin S)). IsCutShort (suc k) now (turns_in (suc k) lines) a
          (whole_view board) x.actor (seen_by q))
          (pass_is k a p is has)
          (acted_cut now lines (suc k) a x.actor (whole_view board) (seen_by (pass_of x.port)) x.part.items x.starved
          (out_is k a is).acted));
    }

    -- the round's pass is as it was
    pub unused : seen_by first ≡ whole_view board → IsUnused board passes
    unused seen p is = subst (λ (q : Pass V Item (Origin S)). seen_by q ≡ whole_view board)
        (one_of (Some first) first p refl (sym (ap (λ l. slice_get l 0) passes_are) ∙ is)) seen

    count : length passes ≡ suc (length olds)
    count = ap length passes_are ∙ ap suc (length-map after (λ (x : Acting P). pass_of x.port) ∙ out.length_is)

    at_place : (k : ℕ) (p : Pass V Item (Origin S)) → slice_get (first ∷ map (λ (x : Acting P). pass_of x.port) after) k
        ≡ Some p → IsPass z many k p
    at_place zero p is = subst (IsPass z many zero) (one_of (Some first) first p refl is) own
    at_place (suc k) p is =
        let within : k < length after =
        omega (
          arith,
          slice_get_within (map (λ (x : Acting P). pass_of x.port) after) k p is,
          length-map after (λ (x : Acting P). pass_of x.port),
        ) in
        let x = stands after k within in let a = stands olds k (omega (arith, within, out.length_is)) in
        subst (IsPass z many (suc k)) (image_at after (λ (y : Acting P). pass_of y.port) k x.0 p x.1 is)
        (out.at k a.0 x.0 a.1 x.1).pass

    -- all passes are back
    pub all_back : many ≡ suc (length olds) → AreBack z (length olds) passes
    all_back many_is = record {
      count_is = count;
      all = (
        omega (arith, count),
        λ k p at. subst (λ (m : ℕ). IsPass z m k p) (many_is ∙ sym count)
            (at_place k p (sym (ap (λ l. slice_get l k) passes_are) ∙ as_slice passes k p at)),
      );
    }

module _ {V S D : Type 0} (board : View D) (z : TableId) (actors : ℕ) (passes : List (Pass V Item (Origin S)))
    (handed : AreHanded board z (actors + 1) passes) where
  own_at : (k : ℕ) (p : Pass V Item (Origin S)) → slice_get passes k ≡ Some p → IsOwn board z (actors + 1) k p
  own_at k p is = record {
    pass = subst (λ (m : ℕ). IsPass z m k p) handed.0 (handed.1.1 k p (as_elem passes k p is));
    seen = handed.2 k p (as_elem passes k p is);
  }

  module _ (rest : List (Pass V Item (Origin S))) (first : Pass V Item (Origin S)) (split : passes ≡ first ∷ rest) where
    -- the first pass is the round's
    pub first_own : IsOwn board z (actors + 1) 0 first
    first_own = own_at 0 first (ap (λ l. slice_get l 0) split)

    -- the others are the actors'
    pub rest_own : AreOwn board z actors rest
    rest_own = record {
      count_is = omega (arith, handed.0, ap length split);
      own = λ k p is. own_at (suc k) p (ap (λ l. slice_get l (suc k)) split ∙ is);
    }

  -- nobody has used a pass yet
  pub none_begun : (now : Moment) (lines : List Line) (olds : List ActorState) → WereCut board now lines olds passes
  none_begun now lines olds = record {
    news = olds;
    same = same_as olds olds refl;
    cut = λ k a a' p is new has.
        subst (λ b. IsCutShort (suc k) now (turns_in (suc k) lines) a (whole_view board) b (seen_by p))
        (one_of (slice_get olds k) a a' is new)
        (subst (λ w. IsCutShort (suc k) now (turns_in (suc k) lines) a (whole_view board) a w)
        (sym (handed.2 (suc k) p (as_elem passes (suc k) p has))) (nothing (suc k) now lines a));
  }
    where
      nothing : (by : ℕ) (now : Moment) (lines : List Line) (a : ActorState)
          → IsCutShort by now (turns_in by lines) a (whole_view board) a (whole_view board)
      nothing by now lines a = record {
        done = [];
        rest = turns_in by lines;
        split = refl;
        new = [];
        mid = a;
        middle = whole_view board;
        taken = (refl, (refl, refl));
        cut = not_next (turns_in by lines);
      }
        where
          not_next : (ts : List Turn) → IsCutAt by now ts a (whole_view board) a (whole_view board)
          not_next [] = (refl, refl)
          not_next (t ∷ ts) = inl (refl, refl)
