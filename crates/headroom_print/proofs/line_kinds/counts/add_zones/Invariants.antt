use Rattle.std.proofs.Common.{map, take}
use Rattle.std.specs.List.{flat_map}
use Rattle.headroom_print.specs.Values.{zone_named}
use Rattle.line_writing.specs.Writing.{AddsTokens}
use Rattle.headroom_print.specs.Members.{member_tokens}
use Rattle.headroom_print.proofs.line_kinds.counts.add_zones.Given as goal

abbrev pub invariant-loop-zone : goal.invariant-loop-zone
invariant-loop-zone l =
    AddsTokens l.fn.line l.line
    (flat_map member_tokens (map zone_named (take l.zone-index l.zones)))
