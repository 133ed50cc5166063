use Rattle.dump_reader.specs.TextLines.{is_newline}
use Rattle.dump_reader.proofs.Finding.{first-position}
use Rattle.dump_reader.proofs.text_lines.newline_in.Goals as goal

pub returns : goal.returns
returns c = first-position is_newline c.args.bytes.now c.memchr.result c.memchr.ensures
