-- The lemmas that other crates may cite.
pub use Rattle.disk_trait.proofs.Ranges.{length_overwritten, torn_overwritten, bytes_overwritten, take_overwritten}
pub use Rattle.disk_trait.proofs.Steps.{runs_there, wrote_content, synced_content, Bears, wrote_has, sync_has, looks_has, runs_then, runs_change, runs_look, write_fails, write_syncs, runs_weaker, has_weaker, extends_same, extends_then, was_held, synced_has, settled_has, images_split, runs_image}
pub use Rattle.disk_trait.proofs.Told.{goes_then, goes_back, goes_weaker, goes_same}
