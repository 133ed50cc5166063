-- The lemmas that other crates may cite.
pub use Rattle.round_theorem.proofs.AloneRows.{first_rows, auction_rows, third_rows, work_accepted}
pub use Rattle.round_theorem.proofs.Answered.{are-heard, heard_cell}
pub use Rattle.round_theorem.proofs.Causes.{names_after}
pub use Rattle.round_theorem.proofs.FairClaims.{IsRowWaiting}
pub use Rattle.round_theorem.proofs.FairRound.{alone-refused}
pub use Rattle.round_theorem.proofs.JobsPlaced.{from_table, placed-each, placed-of}
pub use Rattle.round_theorem.proofs.LastCalls.{AreLast, last-calls}
pub use Rattle.round_theorem.proofs.Lists.{Differ, differ_pairs, kept_inside, one_of_name}
pub use Rattle.round_theorem.proofs.Losses.{lost_each, lost_noted}
pub use Rattle.round_theorem.proofs.Lost.{has-causes}
pub use Rattle.round_theorem.proofs.PlacesTaken.{instance_named}
pub use Rattle.round_theorem.proofs.RepSets.{names_set}
pub use Rattle.round_theorem.proofs.RoomyCells.{is-roomy, heard_named, present-there}
pub use Rattle.round_theorem.proofs.Starts.{in_course}
pub use Rattle.round_theorem.proofs.StopsDone.{cell_stays}
