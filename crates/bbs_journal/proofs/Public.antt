-- The lemmas that other crates may cite.
pub use Rattle.bbs_journal.proofs.Accepted.{accepted}
pub use Rattle.bbs_journal.proofs.Frames.{before_or_after}
pub use Rattle.bbs_journal.proofs.Kept.{length-heading}
pub use Rattle.bbs_journal.proofs.Once.{opens_once}
pub use Rattle.bbs_journal.proofs.Opening.{stands_yields}
pub use Rattle.bbs_journal.proofs.Outcomes.{opens_or_not}
pub use Rattle.bbs_journal.proofs.Peeking.{keeps_then}
pub use Rattle.bbs_journal.proofs.Readable.{headed_version, newest_if_not_first, opening_version}
pub use Rattle.bbs_journal.proofs.Recovered.{recovered, ready}
pub use Rattle.bbs_journal.proofs.Sides.{other_other, own_still, older_front, older_ready, unframed_ready}
pub use Rattle.bbs_journal.proofs.Stops.{area_opens, stops_opened, acknowledged_opened}
