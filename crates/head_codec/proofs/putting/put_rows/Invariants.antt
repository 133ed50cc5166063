use Rattle.std.proofs.Common.{take}
use Rattle.std.specs.List.{flat_map}
use Rattle.wire_fields.specs.Field.{PutsText}
use Rattle.head_codec.proofs.putting.put_rows.Given as goal

abbrev pub invariant-loop-row : goal.invariant-loop-row
invariant-loop-row g l = PutsText l.fn.out l.at (flat_map g.X.Fields.format.spelling (take l.row-index l.rows)) l.out
    l.place
