use Rattle.scenario_reader.specs.TextLines.{is_newline}
use Rattle.scenario_reader.proofs.Finding.{first-position}
use Rattle.scenario_reader.proofs.text_lines.newline_in.Goals as goal

pub returns : goal.returns
returns c = first-position is_newline c.args.bytes.now c.memchr.result c.memchr.ensures
