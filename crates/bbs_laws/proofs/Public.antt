-- The lemmas that other crates may cite.
pub use Rattle.bbs_laws.proofs.KeepSteps.{by_test, by_passing, by_knowing, by_joining}
pub use Rattle.bbs_laws.proofs.KeepWalk.{each-keeps_aside}
pub use Rattle.bbs_laws.proofs.KeepBirths.{waits-below}
pub use Rattle.bbs_laws.proofs.Keeps.{IsValid-rows_after, wanted-first, legal_changes}
pub use Rattle.bbs_laws.proofs.KeepRuns.{next-rows_after}
pub use Rattle.bbs_laws.proofs.KeepLogs.{replay_log-append, IsLawful-append, IsLawful-take, IsLawful-parts, IsValid-after_item, IsValid-rows_at, IsValid-reached, place-within, legal_at}
pub use Rattle.bbs_laws.proofs.KeepOnce.{rests-after_item, completions-none, completions-once, once_over_openings}
pub use Rattle.bbs_laws.proofs.Readings.{length-told_in, told_in-append, told_in-one_more, heard_of_told}
