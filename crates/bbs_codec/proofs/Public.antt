-- The lemmas that other crates may cite.
pub use Rattle.bbs_codec.proofs.Commands.{command_again, command_known, command_least, command_most}
pub use Rattle.bbs_codec.proofs.Records.{HasLaws, laws-both, IsSameWhere, laws-seen_where, IsFormat-in, seen_found}
pub use Rattle.bbs_codec.proofs.Formats.{laws-number32, laws-number64, laws-desired}
pub use Rattle.bbs_codec.proofs.RowLaws.{laws-actual, laws-task_row, laws-cell_row, laws-domain_row}
pub use Rattle.bbs_codec.proofs.RowLaws.{IsFormat-actual_in, IsFormat-domain_in}
pub use Rattle.bbs_codec.proofs.Cases.{none_at}
pub use Rattle.bbs_codec.proofs.Written.{Puts-front}
