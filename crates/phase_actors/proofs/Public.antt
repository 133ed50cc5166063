-- The lemmas that other crates may cite.
pub use Rattle.phase_actors.proofs.OneActor.{one_same, one_then}
