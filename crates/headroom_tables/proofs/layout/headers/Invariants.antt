use Rattle.std.proofs.Common.{◌≡◌, map, take}
use Rattle.text_table.specs.Texts.{entries_of}
use Rattle.headroom_tables.specs.Written.{columns_of}
use Rattle.headroom_tables.proofs.layout.headers.Given as goal

abbrev pub invariant-loop-column : goal.invariant-loop-column
invariant-loop-column l =
    entries_of l.headers.items ≡ map (λ c. c.1) (columns_of (take l.column-index l.columns))
