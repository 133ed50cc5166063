-- The lemmas that other crates may cite.
pub use Rattle.container_store.proofs.Fresh.{gives_up}
pub use Rattle.container_store.proofs.Rising.{IsRising-filter}
