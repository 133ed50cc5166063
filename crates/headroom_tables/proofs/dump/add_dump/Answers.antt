use Rattle.headroom_tables.specs.DumpLines.{dump_parts}
use Rattle.headroom_tables.proofs.dump.add_dump.Goals as goal

pub returns : goal.returns
unfolding dump_parts
returns c = rw (← c.from.ensures, ← c.from-2.ensures, ← c.from-3.ensures, ← c.from-4.ensures, ← c.from-5.ensures)
    c.add_line.ensures
