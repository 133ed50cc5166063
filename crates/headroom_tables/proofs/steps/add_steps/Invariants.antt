use Rattle.std.proofs.Common.{◌≡◌, take}
use Rattle.std.specs.List.{flat_map}
use Rattle.text_table.specs.Texts.{texts_of}
use Rattle.headroom_tables.specs.DrainTables.{step_rows}
use Rattle.headroom_tables.proofs.steps.add_steps.Given as goal

abbrev pub invariant-loop-step : goal.invariant-loop-step
invariant-loop-step l =
    texts_of l.rows.items ≡ flat_map step_rows (take l.step-index l.steps)
