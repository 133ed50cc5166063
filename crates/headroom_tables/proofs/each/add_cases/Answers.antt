use Rattle.std.proofs.Common.{◌≡◌, arith}
use Rattle.std.specs.List.{flat_map}
use Rattle.std.proofs.lemmas.Grind.{common_steps}
use Rattle.text_table.specs.Texts.{texts_of}
use Rattle.headroom_tables.specs.EachTable.{case_columns, case_rows}
use Rattle.headroom_tables.proofs.Told.{rows_told}
use Rattle.headroom_tables.proofs.each.add_cases.Goals as goal

pub returns : goal.returns
unfolding case_columns
returns c =
    let same : texts_of c.loop-case.rows.items ≡ flat_map (case_rows c.args.of) c.args.cases.now =
    grind (arith, common_steps) in
    rows_told c.add_table.result c.args.text.now.items c.add_table.new.text.items case_columns _ _ same
    c.add_table.ensures
