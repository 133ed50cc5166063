-- The lemmas that other crates may cite.
pub use Rattle.cell_rep.proofs.Cells.{keeps_stopped, keeps_started}
pub use Rattle.cell_rep.proofs.Starts.{starts_stand, reps_answer}
