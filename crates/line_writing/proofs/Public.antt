-- The lemmas that other crates may cite.
pub use Rattle.line_writing.proofs.Lines.{opened, more, more_as, more_text, closed, on_ok, keyed, line_written, if_ok}
