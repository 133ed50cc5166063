-- The lemmas that other crates may cite.
pub use Rattle.board_port.proofs.Public.{goes_further, goes_nowhere}
pub use Rattle.phase_runs.proofs.Parts.{by_both, not_begun, ran_whole}
pub use Rattle.phase_runs.proofs.Places.{one_of}
pub use Rattle.phase_runs.proofs.PutBack.{put_back, same_as, same_put, same_then}
pub use Rattle.phase_runs.proofs.WholePhases.{not_begun_round, same_held}
