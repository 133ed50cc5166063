-- The lemmas that other crates may cite.
pub use Rattle.lock_runs.proofs.Laws.{not_usage, not_exists, script_from, too_long_from, unwritten_from, unstored_from, refused_from, reached_from, untouched_from, later_from, complete_from, no_locket_from, stopped_from, no_script_from, too_much_from}
