-- A turn at a pair, as its caller sees it.
use Rattle.std.proofs.Common.{◌≡◌, ℕ, ◌⊎◌, ◌<◌, ◌^◌, List, ◌++◌, length, drop, sym, ap, ◌∙◌, subst}
use Rattle.std.proofs.Math.Seq.{drop-append_seam}
use denote.Ref.{MutBor}
use denote.Param.Members.{Once}
use Rattle.bbs_board.specs.View.{View}
use Rattle.bbs_model.specs.Calls.{by_of}
use Rattle.bbs_model.specs.Replay.{replay_log}
use Rattle.bbs_model.specs.Step.{verdict_of}
use Rattle.bbs_model.specs.declared.command.Command.{Command}
use Rattle.bbs_model.specs.declared.item.Item.{Item}
use Rattle.bbs_model.specs.declared.rows.Rows.{Rows}
use Rattle.bbs_shared.specs.Boards.{base_of}
use Rattle.bbs_shared.specs.Passes.{port_view_of}
use Rattle.bbs_shared.specs.declared.origin.Origin.{Origin}
use Rattle.standby_board.specs.Calls.{End, Answers, gained}
use Rattle.standby_board.specs.Pairs.{PairView}
use Rattle.ticket_desk.specs.declared.view.View.{View as DeskView}
use Rattle.ticket_desk.specs.Turns.{Turned}
use Rattle.ticket_desk.specs.Views.{Begins}
use Rattle.pair_desk.specs.Standing.{log_of, origin_of}
use Rattle.pair_desk.specs.Turns.{IsCalled, IsSoleCall, IsStale}
use Rattle.pair_desk.specs.declared.at_desk.Starts.{Starts}
use Rattle.pair_desk.proofs.Calls.{sole_answers}

-- the answer of the primary's step behind this log comes out as this end, unless the number is stale
abbrev AnswersAt : ℕ → Rows → List Item → Command → End → Type 0
AnswersAt number base log c end =
    let rows = replay_log base log in IsStale number end ⊎ Answers (verdict_of rows c) (length log) rows.next end

module _ {D E : Type 0} where
  -- a turn at a pair that was this one before and that one after
  pub record TurnAt (v w : DeskView Item (Origin (Starts (View D) (View E)))) (before after : PairView D E) : Type 0 where
    pub saw : Begins v.seen before.primary.log
    pub base : before.primary.base ≡ base_of v.origin
    pub is : w ≡ record v { seen = after.primary.log; mine = v.mine ++ drop (length before.primary.log) after.primary.log }

  pub turn_at : {F R : Type 0} (g : Once F (MutBor (PairView D E) × Unit {0})
      (R × (MutBor (PairView D E) × Unit {0}))) (f : F) (n : ℕ)
      (v w : DeskView Item (Origin (Starts (View D) (View E)))) (r : R)
      (t : Turned log_of origin_of g f by_of n v w r)
      → TurnAt v w t.ran.shown.now t.ran.left.now
  turn_at g f n v w r t = record {
    saw = subst (λ (b : PairView D E). Begins v.seen b.primary.log) (sym t.ran.shows) t.saw;
    base = ap (λ (b : PairView D E). b.primary.base) t.ran.shows ∙ sym (ap base_of t.source);
    is = t.view_is ∙ (λ j. record v {
      seen = (sym t.ran.leaves j).primary.log;
      mine = v.mine ++ drop (length (sym t.ran.shows j).primary.log) (sym t.ran.leaves j).primary.log;
    });
  }

  module _ (v w : DeskView Item (Origin (Starts (View D) (View E)))) (before after : PairView D E)
      (t : TurnAt v w before after) (moment : D → ℕ) (moment' : E → ℕ) (faults : D → ℕ) (faults' : E → ℕ)
      (number by : ℕ) (c : Command) (end : End)
      (call : IsSoleCall moment moment' faults faults' number by c before after end)
      (log : after.primary.log ≡ before.primary.log ++ gained end by c) where
    seen_after : w.seen ≡ after.primary.log
    seen_after = ap (λ (x : DeskView Item (Origin (Starts (View D) (View E)))). x.seen) t.is

    seen_more : after.primary.log ≡ (v.seen ++ t.saw.0) ++ gained end by c
    seen_more = log ∙ ap (λ (xs : List Item). xs ++ gained end by c) t.saw.1

    mine_more : v.mine ++ drop (length before.primary.log) after.primary.log ≡ v.mine ++ gained end by c
    mine_more = ap (λ (xs : List Item). v.mine ++ drop (length before.primary.log) xs) log
        ∙ ap (λ (xs : List Item). v.mine ++ xs) (drop-append_seam before.primary.log (gained end by c))

    answered : AnswersAt number (base_of v.origin) (v.seen ++ t.saw.0) c end
    answered =
        subst (λ (r : Rows). AnswersAt number r (v.seen ++ t.saw.0) c end) t.base
        (subst (λ (xs : List Item). AnswersAt number before.primary.base xs c end) t.saw.1
        (sole_answers moment moment' faults faults' number by c before after end call))

    pub pair_called : length after.primary.log < 2 ^ 64
        → IsCalled moment moment' faults faults' number by c (port_view_of v) (port_view_of w) end
    pair_called few = record {
      others = t.saw.0;
      before = before;
      after = after;
      base = t.base;
      log = t.saw.1;
      call = call;
      answers = answered;
      is = ap port_view_of t.is ∙ (λ j. record { base = base_of v.origin; seen = seen_more j; mine = mine_more j });
      few = subst (λ (xs : List Item). length xs < 2 ^ 64) (sym seen_after) few;
    }
