-- A desk is dealt and closed, in the words of the board.
use Rattle.std.proofs.Common.{◌≡◌, ℕ, List, ◌++◌, Option, sym, ap, ◌∙◌, subst}
use Rattle.std.proofs.lemmas.List.{append_cancel_left}
use Rattle.atomic_table.specs.Seated.{TableId}
use Rattle.disk_trait.specs.Past.{Past}
use Rattle.bbs_board.specs.View.{View}
use Rattle.bbs_model.specs.Calls.{by_of}
use Rattle.bbs_model.specs.declared.item.Item.{Item}
use Rattle.board_port.specs.Going.{BoardGoesOn}
use Rattle.ticket_desk.specs.Passes.{AreDealt, IsClosed, IsNew}
use Rattle.ticket_desk.specs.declared.pass.Pass.{Pass}
use Rattle.bbs_shared.specs.Boards.{BoardStanding, HasGone, base_of, log_of, origin_of}
use Rattle.bbs_shared.specs.Passes.{seen_by}
use Rattle.bbs_shared.specs.Sharings.{AreHanded, CameBack, whole_view}
use Rattle.bbs_shared.specs.declared.origin.Origin.{Origin}

module _ {D : Type 0} where
  -- what a new pass has seen
  new_seen : (at : BoardStanding D) (p : Pass (BoardStanding D) Item (Origin (View D))) → IsNew log_of origin_of at p
      → seen_by p ≡ whole_view at.board
  new_seen at p new = λ j. record { base = ap base_of new.source j; seen = new.seen j; mine = new.mine j }

  pub handed : (at : BoardStanding D) (z : TableId) (many : ℕ)
      (passes : List (Pass (BoardStanding D) Item (Origin (View D))))
      → AreDealt log_of origin_of at z many passes → AreHanded at.board z many passes
  handed at z many passes dealt = (dealt.0, dealt.1, λ k p is. new_seen at p (dealt.2 k p is))

  module _ (told : D → Option Past) (at left : BoardStanding D)
      (passes : List (Pass (BoardStanding D) Item (Origin (View D)))) (began : at.board ≡ at.start)
      (closed : IsClosed log_of origin_of by_of at left passes) (gone : HasGone told left.start left.board) where
    same_start : left.start ≡ at.start
    same_start = ap (λ (o : Origin (View D)). o.start) closed.source

    goes_here : BoardGoesOn told gone.fresh at.start left.board
    goes_here = subst (λ (v : View D). BoardGoesOn told gone.fresh v left.board) same_start gone.goes

    same_fresh : gone.fresh ≡ closed.fresh
    same_fresh = append_cancel_left at.start.log gone.fresh closed.fresh
        (sym goes_here.grows ∙ closed.history ∙ ap (λ (v : View D). v.log ++ closed.fresh) began)

    pub came_back : CameBack told at.start left.board passes
    came_back = record {
      fresh = closed.fresh;
      goes = subst (λ (xs : List Item). BoardGoesOn told xs at.start left.board) same_fresh goes_here;
      own = closed.own;
      seen = closed.seen;
      no_others = closed.no_others;
    }
