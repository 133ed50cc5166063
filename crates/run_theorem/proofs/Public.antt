-- The lemmas that other crates may cite.
pub use Rattle.run_theorem.proofs.Said.{all_parts}
