-- The lemmas that other crates may cite.
pub use Rattle.pair_desk.proofs.Sent.{at_desk_send, shared_sync}
