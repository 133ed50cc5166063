use Rattle.std.proofs.Common.{◌≡◌, take}
use Rattle.std.specs.List.{flat_map}
use Rattle.text_table.specs.Texts.{texts_of}
use Rattle.headroom_tables.specs.DrainTables.{tightest_rows}
use Rattle.headroom_tables.proofs.steps.add_all_tightest.Given as goal

abbrev pub invariant-loop-step : goal.invariant-loop-step
invariant-loop-step l =
    texts_of l.rows.items ≡ flat_map (tightest_rows l.steps) (take l.step-index l.steps)
