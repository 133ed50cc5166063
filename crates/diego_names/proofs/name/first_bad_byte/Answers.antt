use Rattle.std.proofs.Common.{sym}
use Rattle.diego_names.proofs.Bytes.{no_bad_byte}
use Rattle.diego_names.proofs.name.first_bad_byte.Goals as goal

pub returns-then-are_name_bytes-clause-value : goal.returns-then-are_name_bytes-clause-value
returns-then-are_name_bytes-clause-value c = no_bad_byte c.args.bytes.now (sym c.if-are_name_bytes.ensures)
