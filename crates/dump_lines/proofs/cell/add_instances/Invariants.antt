use Rattle.std.proofs.Common.{◌≡◌, Ok, drop, map}
use Rattle.serde_json.specs.View.{view}
use Rattle.dump_lines.specs.Cells.{instance_as}
use Rattle.dump_lines.specs.Faults.{unless}
use Rattle.dump_lines.specs.Listing.{all_from}
use Rattle.dump_lines.proofs.cell.add_instances.Given as goal

abbrev pub invariant-loop-item : goal.invariant-loop-item
invariant-loop-item l = all_from instance_as (unless l.fault l.rows) (map view (drop l.item-index l.items))
    ≡ all_from instance_as (Ok l.initial.rows) (map view l.items)
