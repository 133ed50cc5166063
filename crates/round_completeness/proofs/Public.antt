-- The lemmas that other crates may cite.
pub use Rattle.round_completeness.proofs.Auctions.{job_found}
pub use Rattle.round_completeness.proofs.Whole.{none-lost}
