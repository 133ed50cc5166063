-- A pass may go to another thread, and threads may share the board, where the disk may go to another thread.
use denote.RattleType.{RattleType}
use denote.Struct.Struct.{Struct}
use denote.Struct.Declared.{shape}
use denote.Param.Send.{IsSend, IsSync, recorded_sync, sendable, struct_sync}
use Rattle.std.proofs.Crossing.{crosses}
use Rattle.disk_trait.specs.declared.disk.Disk.{Ghosts}
use Rattle.bbs_board.proofs.history.History.TheSendSync as history
use Rattle.bbs_board.proofs.tracked_index.TrackedIndex.TheSendSync as index
use Rattle.bbs_board.specs.contracts.board.Board as board
use Rattle.bbs_journal.proofs.journal.Journal.TheSendSync as journal
use Rattle.ticket_desk.proofs.desk.Desk.TheSendSync as desk
use Rattle.bbs_model.specs.contracts.item.Item as item
use Rattle.bbs_shared.specs.contracts.at_desk.AtDesk as at_desk
use Rattle.bbs_shared.specs.contracts.at_desk.AtDeskHistory.TheImpl.{ghosts, no_dict}
use Rattle.bbs_shared.specs.contracts.origin.Origin as origin
use Rattle.bbs_shared.specs.contracts.shared_board.SharedBoard as shared

pub board_send : (D : RattleType) (g : Ghosts D.Denot) → IsSend D → IsSend (board.the_row D g)
board_send D g s = search (sendable, crosses, history.the_send, journal.the_send, index.the_send) depth 40 fits 4000

pub at_desk_send : (D : RattleType) (g : Ghosts D.Denot) → IsSend D → IsSend (at_desk.the_row D g)
at_desk_send D g s = search (sendable, crosses, board_send) depth 40

pub shared_sync : (D : RattleType) (g : Ghosts D.Denot) → IsSend D → IsSync (shared.the_row D g)
shared_sync D g s =
    let field = desk.the_field_sync (at_desk.the_row D g) item.the_row (origin.the_row (board.the_row D g))
    (ghosts D g no_dict) (at_desk_send D g s) in
    let fields : IsSync (Struct (shape (shared.the_type D g))) =
    struct_sync (shape (shared.the_type D g)) (field, tt) in
    recorded_sync _ _ _ (shared.the_type D g).to_one fields
