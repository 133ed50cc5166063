use Rattle.std.proofs.Common.{map, take}
use Rattle.std.specs.List.{flat_map}
use Rattle.line_writing.specs.Writing.{AddsTokens}
use Rattle.headroom_print.specs.Members.{member_tokens, named}
use Rattle.headroom_print.proofs.line_kinds.object.add_members.Given as goal

abbrev pub invariant-loop-member : goal.invariant-loop-member
invariant-loop-member l =
    AddsTokens l.fn.line l.line (flat_map member_tokens (map named (take l.member-index l.members)))
