-- The lemmas that other crates may cite.
pub use Rattle.bbs_shared.proofs.Sent.{at_desk_send, board_send, shared_sync}
