-- A turn at a board, as its caller sees it.
use Rattle.std.proofs.Common.{◌≡◌, ℕ, ◌<◌, ◌^◌, List, [], ◌++◌, length, drop, Option, Some, Result, sym, ap, ◌∙◌, subst}
use Rattle.std.proofs.Math.Seq.{drop-append_seam, drop-length}
use Rattle.std.proofs.lemmas.List.{append-nil}
use denote.Ref.{MutBor}
use denote.Param.Members.{Once}
use Rattle.disk_trait.specs.Past.{Past}
use Rattle.disk_trait.specs.Steps.{Goes}
use Rattle.bbs_board.specs.Calls.{Grows, Passes}
use Rattle.bbs_board.specs.View.{View, rows_of}
use Rattle.bbs_model.specs.Calls.{Ends, added, by_of, is_done}
use Rattle.bbs_model.specs.PortView.{IsCalled, Looks}
use Rattle.bbs_model.specs.Replay.{replay_log}
use Rattle.bbs_model.specs.Step.{verdict_of}
use Rattle.bbs_model.specs.declared.command.Command.{Command}
use Rattle.bbs_model.specs.declared.item.Item.{Item}
use Rattle.bbs_model.specs.declared.reply.CallFault.{CallFault}
use Rattle.bbs_model.specs.declared.reply.Reply.{Reply}
use Rattle.bbs_model.specs.declared.rows.Rows.{Rows}
use Rattle.board_port.proofs.Public.{goes_further, goes_nowhere, sole_went}
use Rattle.ticket_desk.specs.declared.view.View.{View as DeskView}
use Rattle.ticket_desk.specs.Turns.{Turned}
use Rattle.ticket_desk.specs.Views.{Begins}
use Rattle.bbs_shared.specs.Boards.{BoardStanding, HasGone, log_of, origin_of, base_of, IsRead}
use Rattle.bbs_shared.specs.Passes.{port_view_of}
use Rattle.bbs_shared.specs.declared.origin.Origin.{Origin}

-- the command's verdict behind this log comes out as this end
abbrev EndsAt : Rows → List Item → Command → Result Reply CallFault → Type 0
EndsAt base log c end = let rows = replay_log base log in Ends (verdict_of rows c) (length log) rows.next end

module _ {D : Type 0} where
  -- a turn at a board that was this one before and that one after
  pub record TurnAt (v w : DeskView Item (Origin (View D))) (before after : BoardStanding D) : Type 0 where
    pub saw : Begins v.seen before.board.log
    pub base : base_of v.origin ≡ before.board.base
    pub is : w ≡ record v { seen = after.board.log; mine = v.mine ++ drop (length before.board.log) after.board.log }

  pub turn_at : {F R : Type 0} (g : Once F (MutBor (BoardStanding D) × Unit {0})
      (R × (MutBor (BoardStanding D) × Unit {0}))) (f : F) (n : ℕ)
      (v w : DeskView Item (Origin (View D))) (r : R) (t : Turned log_of origin_of g f by_of n v w r)
      → TurnAt v w t.ran.shown.now t.ran.left.now
  turn_at g f n v w r t = record {
    saw = subst (λ (b : BoardStanding D). Begins v.seen b.board.log) (sym t.ran.shows) t.saw;
    base = ap base_of t.source ∙ ap (λ (b : BoardStanding D). b.board.base) (sym t.ran.shows);
    is = t.view_is ∙ (λ j. record v {
      seen = (sym t.ran.leaves j).board.log;
      mine = v.mine ++ drop (length (sym t.ran.shows j).board.log) (sym t.ran.leaves j).board.log;
    });
  }

  module _ (v w : DeskView Item (Origin (View D))) (before after : BoardStanding D) (t : TurnAt v w before after) where
    pub same_origin : w.origin ≡ v.origin
    same_origin = ap (λ (x : DeskView Item (Origin (View D))). x.origin) t.is

    pub seen_after : w.seen ≡ after.board.log
    seen_after = ap (λ (x : DeskView Item (Origin (View D))). x.seen) t.is

    module _ (by : ℕ) (c : Command) (end : Result Reply CallFault)
        (log : after.board.log ≡ before.board.log ++ added end by c) where
      seen_more : after.board.log ≡ (v.seen ++ t.saw.0) ++ added end by c
      seen_more = log ∙ ap (λ (xs : List Item). xs ++ added end by c) t.saw.1

      mine_more : v.mine ++ drop (length before.board.log) after.board.log ≡ v.mine ++ added end by c
      mine_more = ap (λ (xs : List Item). v.mine ++ drop (length before.board.log) xs) log
          ∙ ap (λ (xs : List Item). v.mine ++ xs) (drop-append_seam before.board.log (added end by c))

      ended : EndsAt before.board.base before.board.log c end → EndsAt (base_of v.origin) (v.seen ++ t.saw.0) c end
      ended ends =
          subst (λ (r : Rows). EndsAt r (v.seen ++ t.saw.0) c end) (sym t.base)
          (subst (λ (xs : List Item). EndsAt before.board.base xs c end) t.saw.1 ends)

      pub shared_called : Ends (verdict_of (rows_of before.board) c) (length before.board.log)
          (rows_of before.board).next end → length after.board.log < 2 ^ 64
          → IsCalled by (port_view_of v) c end (port_view_of w)
      shared_called ends few = record {
        others = t.saw.0;
        ends = ended ends;
        is = ap port_view_of t.is ∙ (λ j. record { base = base_of v.origin; seen = seen_more j; mine = mine_more j });
        few = subst (λ (xs : List Item). length xs < 2 ^ 64) (sym seen_after) few;
      }

    module _ (read : IsRead before after) where
      seen_same : after.board.log ≡ v.seen ++ t.saw.0
      seen_same = ap (λ (b : BoardStanding D). b.board.log) read.same ∙ t.saw.1

      mine_same : v.mine ++ drop (length before.board.log) after.board.log ≡ v.mine
      mine_same = ap (λ (b : BoardStanding D). v.mine ++ drop (length before.board.log) b.board.log) read.same
          ∙ ap (λ (xs : List Item). v.mine ++ xs) (drop-length before.board.log) ∙ append-nil v.mine

      pub shared_looks : Looks (port_view_of v) (port_view_of w)
      shared_looks = record {
        others = t.saw.0;
        is = ap port_view_of t.is ∙ (λ j. record { base = base_of v.origin; seen = seen_same j; mine = mine_same j });
        few = subst (λ (xs : List Item). length xs < 2 ^ 64) (sym seen_after)
            (subst (λ (b : BoardStanding D). length b.board.log < 2 ^ 64) (sym read.same) read.few);
      }

      -- what was read of the board's base and of its log is so of what is seen now
      pub of_seen : (P : Rows → List Item → Type 0) → P before.board.base before.board.log
          → P (port_view_of w).base (port_view_of w).seen
      of_seen P is =
          subst (λ (r : Rows). P r (port_view_of w).seen) (sym (ap base_of same_origin ∙ t.base))
          (subst (λ (xs : List Item). P before.board.base xs)
          (sym (seen_after ∙ ap (λ (b : BoardStanding D). b.board.log) read.same)) is)

module _ {D : Type 0} (told : D → Option Past) (start : View D) where
  -- at its start it has not gone on yet
  pub not_gone : HasGone told start start
  not_gone = record { fresh = []; goes = goes_nowhere told start }

  -- a call goes on from there
  pub gone_further : (v w : View D) (c : Command) (end : Result Reply CallFault) (by moment : ℕ)
      → Ends (verdict_of (rows_of v) c) (length v.log) (rows_of v).next end
      → Grows (is_done end) (added end by c) moment v w → ((q : Past) → told w.disk ≡ Some q → q.clock ≡ moment)
      → Goes (told v.disk) (told w.disk) (Passes v.waits (verdict_of (rows_of v) c) (is_done end) (rows_of v) c)
      → HasGone told start v → HasGone told start w
  gone_further v w c end by moment ends grows timed does gone =
      let went = sole_went by v w c end moment ends grows told 0 timed does in
      record {
        fresh = gone.fresh ++ went.more;
        goes = goes_further told start v w gone.fresh went.more gone.goes went.goes;
      }
