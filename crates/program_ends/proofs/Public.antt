-- The lemmas that other crates may cite.
pub use Rattle.program_ends.proofs.Opened.{keeps_same, opened, rests_unseen, unopened}
pub use Rattle.program_ends.proofs.Readings.{bytes_as, unread_as, never_unread, as_told, not_too_long, not_whole, read_cause, unread_cause}
