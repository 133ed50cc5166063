-- The lemmas that other crates may cite.
pub use Rattle.pair_runs.proofs.Playing.{plays_then}
pub use Rattle.pair_runs.proofs.Prints.{prints_as, prints_none, prints_then}
pub use Rattle.pair_runs.proofs.Serving.{answered_then, covers_more, covers_then, serves_none, serves_then}
