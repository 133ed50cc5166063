use Rattle.dump_reader.proofs.SoundDumps.{gives-sound}
use Rattle.dump_reader.proofs.reader.read_dump.Goals as goal

pub returns-clause-facts : goal.returns-clause-facts
returns-clause-facts c = gives-sound c.read_whole.result c.args.bytes.now c.read_whole.ensures
