use Rattle.std.proofs.Common.{◌≡◌, ◌<◌, true, sym, subst}
use Rattle.std.specs.Prelude.{OnOk}
use Rattle.bbs_model.specs.declared.rows.Rows.{Rows}
use Rattle.bbs_board.specs.Room.{places_in, places_left}
use Rattle.bbs_board.specs.Storing.{IsHeadOf}
use Rattle.bbs_board.proofs.Counting.{some_places}
use Rattle.bbs_board.proofs.room.prepare_call.Goals as goal

pub returns-clause-succeeds : goal.returns-clause-succeeds
returns-clause-succeeds c = λ some.
    c.prepare_head.ensures.succeeds
    (subst (λ (r : Rows). 0 < places_left (places_in c.args.draft.now) r) (sym c.make_item_room.ensures.rows)
    (some_places _ _ (places_left (places_in c.args.draft.now) c.args.index.now.rows) some))

pub returns-clause-head : goal.returns-clause-head
returns-clause-head c =
    subst (λ (r : Rows). OnOk c.prepare_head.result (c.args.due ≡ true
    → IsHeadOf r c.prepare_head.new.draft.bytes.items)) c.make_item_room.ensures.rows c.prepare_head.ensures.head
