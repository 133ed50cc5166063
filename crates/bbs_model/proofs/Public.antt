-- The lemmas that other crates may cite.
pub use Rattle.bbs_model.proofs.Each.{each_weaker}
pub use Rattle.bbs_model.proofs.Views.{later_same, later_looks, later_called, later_then, quiet_same, quiet_then, quiet_first, quiet_second, quiet_looks, quiet_called, looks_alone, called_alone}
