-- The lemmas that other crates may cite.
pub use Rattle.diego_names.proofs.Ties.{IsKeyOrder-key_order, IsKeyOrder-name_order}
