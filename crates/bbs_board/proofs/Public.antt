-- The lemmas that other crates may cite.
pub use Rattle.bbs_board.proofs.Loaded.{one_board, not_refused}
pub use Rattle.bbs_board.proofs.Doubting.{no_doubts}
pub use Rattle.bbs_board.proofs.Writing.{replay_behind, writes_nothing, writes_then, stores_writes}
