-- A pass may go to another thread, and threads may share the pair, where both disks may go to another thread.
use denote.RattleType.{RattleType}
use denote.Struct.Struct.{Struct}
use denote.Struct.Declared.{shape}
use denote.Param.Send.{IsSend, IsSync, recorded_sync, sendable, struct_sync}
use Rattle.std.proofs.Crossing.{crosses}
use Rattle.disk_trait.specs.declared.disk.Disk.{Ghosts}
use Rattle.bbs_board.specs.contracts.board.Board as board
use Rattle.bbs_model.proofs.command.Command.TheSendSync as command
use Rattle.bbs_model.specs.contracts.item.Item as item
use Rattle.bbs_shared.proofs.Public.{board_send}
use Rattle.bbs_shared.specs.contracts.origin.Origin as origin
use Rattle.fenced_board.proofs.fence.Fence.TheSendSync as fence
use Rattle.standby_board.specs.contracts.pair.Pair as pair
use Rattle.ticket_desk.proofs.desk.Desk.TheSendSync as desk
use Rattle.pair_desk.specs.contracts.at_desk.AtDesk as at_desk
use Rattle.pair_desk.specs.contracts.at_desk.AtDeskHistory.TheImpl.{ghosts, no_dict}
use Rattle.pair_desk.specs.contracts.at_desk.Starts as starts
use Rattle.pair_desk.specs.contracts.shared_pair.SharedPair as shared

pair_send : (D E : RattleType) (g : Ghosts D.Denot) (h : Ghosts E.Denot) → IsSend D → IsSend E
    → IsSend (pair.the_row D E g h)
pair_send D E g h s t = search (sendable, crosses, board_send, fence.the_send, command.the_send) depth 40

pub at_desk_send : (D E : RattleType) (g : Ghosts D.Denot) (h : Ghosts E.Denot) → IsSend D → IsSend E
    → IsSend (at_desk.the_row D E g h)
at_desk_send D E g h s t = search (sendable, crosses, pair_send) depth 40

pub shared_sync : (D E : RattleType) (g : Ghosts D.Denot) (h : Ghosts E.Denot) → IsSend D → IsSend E
    → IsSync (shared.the_row D E g h)
shared_sync D E g h s t =
    let field = desk.the_field_sync (at_desk.the_row D E g h) item.the_row
    (origin.the_row (starts.the_row (board.the_row D g) (board.the_row E h)))
    (ghosts D E g no_dict h no_dict) (at_desk_send D E g h s t) in
    let fields : IsSync (Struct (shape (shared.the_type D E g h))) =
    struct_sync (shape (shared.the_type D E g h)) (field, tt) in
    recorded_sync _ _ _ (shared.the_type D E g h).to_one fields
