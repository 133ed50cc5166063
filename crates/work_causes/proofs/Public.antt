-- The lemmas that other crates may cite.
pub use Rattle.work_causes.proofs.Alike.{alike}
pub use Rattle.work_causes.proofs.Parts.{goes}
pub use Rattle.work_causes.proofs.Tell.{suits_found, tell}
