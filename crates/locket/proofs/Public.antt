-- The lemmas that other crates may cite.
pub use Rattle.locket.proofs.Payloads.{locket_life}
pub use Rattle.locket.proofs.Outcomes.{one_life, not_refused}
