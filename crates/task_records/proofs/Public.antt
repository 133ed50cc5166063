-- The lemmas that other crates may cite.
pub use Rattle.task_records.proofs.LifeLaws.{completed_is_finished}
pub use Rattle.task_records.proofs.MoveLaws.{KeepsTask-task_move, NeverTurnsBack-task_move}
