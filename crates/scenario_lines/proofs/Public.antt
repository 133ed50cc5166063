-- The lemmas that other crates may cite.
pub use Rattle.scenario_lines.proofs.Fitting.{content_of-fits}
