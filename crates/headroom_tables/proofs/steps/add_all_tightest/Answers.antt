use Rattle.std.proofs.Common.{◌≡◌, arith}
use Rattle.std.specs.List.{flat_map}
use Rattle.std.proofs.lemmas.Grind.{common_steps}
use Rattle.text_table.specs.Texts.{texts_of}
use Rattle.headroom_tables.specs.DrainTables.{tightest_columns, tightest_rows}
use Rattle.headroom_tables.proofs.Told.{rows_told}
use Rattle.headroom_tables.proofs.steps.add_all_tightest.Goals as goal

pub returns : goal.returns
unfolding tightest_columns
returns c =
    let same : texts_of c.loop-step.rows.items ≡ flat_map (tightest_rows c.args.steps.now) c.args.steps.now =
    grind (arith, common_steps) in
    rows_told c.add_table.result c.args.text.now.items c.add_table.new.text.items tightest_columns _ _ same
    c.add_table.ensures
