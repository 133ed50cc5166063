-- The lemmas that other crates may cite.
pub use Rattle.large_runs.proofs.Laws.{large_never, large_no_read, large_unwritten, large_complete, large_calm}
