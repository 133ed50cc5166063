use Rattle.std.proofs.Common.{◌≡◌, map, arith}
use Rattle.std.proofs.lemmas.Grind.{common_steps}
use Rattle.text_table.specs.Texts.{texts_of}
use Rattle.headroom_tables.specs.TagTable.{tag_columns, tag_row}
use Rattle.headroom_tables.proofs.Told.{rows_told}
use Rattle.headroom_tables.proofs.tags.add_tags.Goals as goal

pub returns : goal.returns
unfolding tag_columns
returns c =
    let same : texts_of c.loop-tag.rows.items ≡ map tag_row c.args.tags.now = grind (arith, common_steps) in
    rows_told c.add_table.result c.args.text.now.items c.add_table.new.text.items tag_columns _ _ same
    c.add_table.ensures
