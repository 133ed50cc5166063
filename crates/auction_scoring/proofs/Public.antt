-- The lemmas that other crates may cite.
pub use Rattle.auction_scoring.proofs.Ties.{IsKeyOrder-score_order}
