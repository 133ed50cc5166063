-- The lemmas that other crates may cite.
pub use Rattle.lrp_records.proofs.MoveLaws.{KeepsPlace-lrp_move, KeepsDomain-lrp_move}
pub use Rattle.lrp_records.proofs.Ties.{IsKeyOrder-place_order}
