-- The lemmas that other crates may cite.
pub use Rattle.program_tools.proofs.Laws.{usage_from, usage_to, unwritten_from, unstored_from, refused_from, exists_from, untouched_from, not_of_source, later_from, complete_from, stopped_from}
