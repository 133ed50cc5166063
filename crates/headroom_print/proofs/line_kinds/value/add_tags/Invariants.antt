use Rattle.std.proofs.Common.{map, take}
use Rattle.std.specs.List.{flat_map}
use Rattle.line_writing.specs.Spelled.{optional_name_data}
use Rattle.line_writing.specs.Writing.{AddsTokens}
use Rattle.headroom_print.specs.Members.{item_tokens}
use Rattle.headroom_print.proofs.line_kinds.value.add_tags.Given as goal

abbrev pub invariant-loop-tag : goal.invariant-loop-tag
invariant-loop-tag l =
    AddsTokens l.fn.line l.line (flat_map item_tokens (map optional_name_data (take l.tag-index l.tags)))
