use Rattle.std.proofs.Common.{◌≡◌, ◌++◌, take}
use Rattle.std.specs.List.{flat_map}
use Rattle.headroom_print.specs.AmountLines.{zone_now_line}
use Rattle.headroom_print.proofs.line_kinds.amounts.add_zones_now.Given as goal

abbrev pub invariant-loop-zone : goal.invariant-loop-zone
invariant-loop-zone l =
    l.text.items ≡ l.fn.text.items ++ flat_map (zone_now_line l.line) (take l.zone-index l.zones)
