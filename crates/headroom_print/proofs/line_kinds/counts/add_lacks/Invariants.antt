use Rattle.std.proofs.Common.{take}
use Rattle.std.specs.List.{flat_map}
use Rattle.line_writing.specs.Writing.{AddsTokens}
use Rattle.headroom_print.specs.Members.{lack_tokens}
use Rattle.headroom_print.proofs.line_kinds.counts.add_lacks.Given as goal

abbrev pub invariant-loop-lack : goal.invariant-loop-lack
invariant-loop-lack l = AddsTokens l.fn.line l.line (flat_map lack_tokens (take l.lack-index l.lacking))
