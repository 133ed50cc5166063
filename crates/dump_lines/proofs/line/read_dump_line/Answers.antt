use Rattle.dump_lines.proofs.SoundLines.{gives-sound}
use Rattle.dump_lines.proofs.line.read_dump_line.Goals as goal

pub returns-clause-facts : goal.returns-clause-facts
returns-clause-facts c = gives-sound c.line_of.result c.args.line.now c.line_of.ensures
