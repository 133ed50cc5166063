-- The lemmas that other crates may cite.
pub use Rattle.bbs_transitions.proofs.After.{IsValid-state_after}
