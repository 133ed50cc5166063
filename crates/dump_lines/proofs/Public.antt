-- The lemmas that other crates may cite.
pub use Rattle.dump_lines.proofs.SoundLines.{line_of-sound}
