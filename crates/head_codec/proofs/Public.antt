-- The lemmas that other crates may cite.
pub use Rattle.head_codec.proofs.HeadPlaces.{head_fault_lies}
pub use Rattle.head_codec.proofs.HeadAgain.{head_again}
pub use Rattle.head_codec.proofs.HeadNext.{head_next}
pub use Rattle.head_codec.proofs.LongHeads.{long_same, head_shorter}
