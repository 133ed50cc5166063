-- The lemmas that other crates may cite.
pub use Rattle.event_laws.proofs.Others.{keeps_others}
