-- The lemmas that other crates may cite.
pub use Rattle.plain_step.proofs.Plains.{plain_more, own_nothing}
