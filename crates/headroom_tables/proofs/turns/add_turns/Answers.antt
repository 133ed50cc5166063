use Rattle.std.proofs.Common.{◌≡◌, map, arith}
use Rattle.std.proofs.lemmas.Grind.{common_steps}
use Rattle.text_table.specs.Texts.{texts_of}
use Rattle.headroom_tables.specs.TurnTables.{turn_columns, turn_row}
use Rattle.headroom_tables.proofs.Told.{rows_told}
use Rattle.headroom_tables.proofs.turns.add_turns.Goals as goal

pub returns : goal.returns
unfolding turn_columns
returns c =
    let same : texts_of c.loop-turn.rows.items ≡ map turn_row c.args.turns.now = grind (arith, common_steps) in
    rows_told c.add_table.result c.args.text.now.items c.add_table.new.text.items turn_columns _ _ same
    c.add_table.ensures
