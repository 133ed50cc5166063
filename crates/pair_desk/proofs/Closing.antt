-- A desk is dealt and closed, in the words of the pair.
use Rattle.std.proofs.Common.{◌≡◌, ℕ, List, ap}
use Rattle.atomic_table.specs.Seated.{TableId}
use Rattle.bbs_board.specs.View.{View}
use Rattle.bbs_model.specs.Calls.{by_of}
use Rattle.bbs_model.specs.declared.item.Item.{Item}
use Rattle.bbs_shared.specs.Boards.{base_of}
use Rattle.bbs_shared.specs.Passes.{seen_by}
use Rattle.bbs_shared.specs.Sharings.{AreHanded, whole_view}
use Rattle.bbs_shared.specs.declared.origin.Origin.{Origin}
use Rattle.standby_board.specs.Pairs.{PairView}
use Rattle.ticket_desk.specs.Passes.{AreDealt, IsClosed, IsNew}
use Rattle.ticket_desk.specs.declared.pass.Pass.{Pass}
use Rattle.pair_desk.specs.Standing.{log_of, origin_of}
use Rattle.pair_desk.specs.Turns.{CameBack}
use Rattle.pair_desk.specs.declared.at_desk.Starts.{Starts}

module _ {D E : Type 0} where
  -- what a new pass has seen
  new_seen : (v : PairView D E) (p : Pass (PairView D E) Item (Origin (Starts (View D) (View E))))
      → IsNew log_of origin_of v p → seen_by p ≡ whole_view v.primary
  new_seen v p new = λ j. record { base = ap base_of new.source j; seen = new.seen j; mine = new.mine j }

  pub handed : (v : PairView D E) (z : TableId) (many : ℕ)
      (passes : List (Pass (PairView D E) Item (Origin (Starts (View D) (View E)))))
      → AreDealt log_of origin_of v z many passes → AreHanded v.primary z many passes
  handed v z many passes dealt = (dealt.0, dealt.1, λ k p is. new_seen v p (dealt.2 k p is))

  pub came_back : (v left : PairView D E)
      (passes : List (Pass (PairView D E) Item (Origin (Starts (View D) (View E)))))
      → IsClosed log_of origin_of by_of v left passes → CameBack v left passes
  came_back v left passes closed = record {
    fresh = closed.fresh;
    history = closed.history;
    same = record {
      primary = ap (λ (o : Origin (Starts (View D) (View E))). o.start.primary) closed.source;
      standby = ap (λ (o : Origin (Starts (View D) (View E))). o.start.standby) closed.source;
      floor = ap (λ (o : Origin (Starts (View D) (View E))). o.start.floor) closed.source;
    };
    base = ap (λ (o : Origin (Starts (View D) (View E))). o.base) closed.source;
    since = ap (λ (o : Origin (Starts (View D) (View E))). o.since) closed.source;
    faults = ap (λ (o : Origin (Starts (View D) (View E))). o.faults) closed.source;
    own = closed.own;
    seen = closed.seen;
    no_others = closed.no_others;
  }
