use Rattle.std.proofs.Common.{◌≡◌, take}
use Rattle.std.specs.List.{flat_map}
use Rattle.text_table.specs.Texts.{texts_of}
use Rattle.headroom_tables.specs.EachTable.{case_rows}
use Rattle.headroom_tables.proofs.each.add_cases.Given as goal

abbrev pub invariant-loop-case : goal.invariant-loop-case
invariant-loop-case l =
    texts_of l.rows.items ≡ flat_map (case_rows l.of) (take l.case-index l.cases)
