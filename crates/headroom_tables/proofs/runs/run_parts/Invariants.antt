use Rattle.std.proofs.Common.{◌≡◌, map, take}
use Rattle.text_table.specs.Texts.{entries_of}
use Rattle.headroom_tables.specs.Runs.{run_text}
use Rattle.headroom_tables.proofs.runs.run_parts.Given as goal

abbrev pub invariant-loop-run : goal.invariant-loop-run
invariant-loop-run l =
    entries_of l.parts.items ≡ map run_text (take l.run-index l.runs)
