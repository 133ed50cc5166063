use Rattle.std.proofs.Common.{◌≡◌, [], Ok, drop, map}
use Rattle.serde_json.specs.View.{view}
use Rattle.dump_lines.specs.Values.{name_as}
use Rattle.dump_lines.specs.Listing.{all_from}
use Rattle.dump_lines.proofs.listing.names_of.Given as goal

abbrev pub invariant-loop-item : goal.invariant-loop-item
invariant-loop-item l = all_from name_as l.so_far (map view (drop l.item-index l.items))
    ≡ all_from name_as (Ok []) (map view l.items)
