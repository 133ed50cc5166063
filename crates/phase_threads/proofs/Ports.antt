-- The way of an actor to the board may go to another thread.
use denote.RattleType.{RattleType}
use denote.Ref.{NamedLft}
use denote.Struct.Struct.{Struct}
use denote.Struct.Declared.{shape}
use denote.Param.Send.{IsSend, IsSync, recorded_send, sendable, struct_send}
use Rattle.disk_trait.specs.declared.disk.Disk.{Ghosts}
use Rattle.bbs_board.specs.contracts.board.Board as board
use Rattle.bbs_model.specs.contracts.item.Item as item
use Rattle.bbs_shared.specs.contracts.at_desk.AtDesk as at_desk
use Rattle.bbs_shared.specs.contracts.origin.Origin as origin
use Rattle.bbs_shared.specs.contracts.port.SharedPort as port
use Rattle.bbs_shared.proofs.Public.{at_desk_send, shared_sync}
use Rattle.ticket_desk.proofs.pass.Pass.TheSendSync as pass

pub port_send : (κ : NamedLft) (R D : RattleType) (g : Ghosts D.Denot) → IsSync R → IsSend D
    → IsSend (port.the_row κ R D g)
port_send κ R D g r s =
    let of_pass = pass.the_field_send (at_desk.the_row D g) item.the_row (origin.the_row (board.the_row D g))
    (at_desk_send D g s) in
    let to_board = shared_sync D g s in
    let fields : IsSend (Struct (shape (port.the_type κ R D g))) =
    struct_send (shape (port.the_type κ R D g)) (
      search (sendable, r) depth 10,
      (search (sendable, to_board) depth 10, (of_pass, tt)),
    ) in
    recorded_send _ _ _ (port.the_type κ R D g).to_one fields
