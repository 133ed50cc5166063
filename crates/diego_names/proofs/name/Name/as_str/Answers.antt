use Rattle.diego_names.proofs.Text.{IsUtf8-name}
use Rattle.diego_names.proofs.name.Name.as_str.Goals as goal

pub unreachable-requires : goal.unreachable-requires
unreachable-requires c = c.in-Err.ensures.cases.0 (rw c.bytes.ensures.value (IsUtf8-name _ c.bytes.ensures.name))
