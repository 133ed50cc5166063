-- The lemmas that other crates may cite.
pub use Rattle.board_port.specs.Further.{goes_further, goes_nowhere, rises_from, rises_then, rows_then}
pub use Rattle.board_port.proofs.Sole.{sole_went}
