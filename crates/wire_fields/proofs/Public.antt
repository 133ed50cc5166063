-- The lemmas that other crates may cite.
pub use Rattle.wire_fields.proofs.Fronts.{IsRead, IsRead-written, ok_is}
pub use Rattle.wire_fields.proofs.Instances.{IsField-instance, IsField-optional_instance}
pub use Rattle.wire_fields.proofs.Lengths.{length-field_number, length-field_u32, length-field_u64, length-field_u8, length-field_u16, length-field_name, length-field_truth, length-field_instance, length-no_name, length-some_name, length-no_instance, length-some_instance}
pub use Rattle.wire_fields.proofs.Names.{IsField-name, IsField-optional_name}
pub use Rattle.wire_fields.proofs.Numbers.{IsField-u8, IsField-u32, IsField-u16, IsField-u64}
pub use Rattle.wire_fields.proofs.Pairs.{bind_ok, IsField-pair, take-append_back}
pub use Rattle.wire_fields.proofs.Places.{Puts-then, StandsAt-append, StandsAt-front, StandsAt-back}
pub use Rattle.wire_fields.proofs.Truths.{IsField-truth}
