use Rattle.std.proofs.Common.{map, filter, ap, subst, ◌∙◌}
use Rattle.std.specs.List.{flat_map}
use Rattle.line_writing.specs.Writing.{AddsTokens}
use Rattle.headroom_print.specs.Members.{member_tokens}
use Rattle.headroom_print.specs.Values.{count_named}
use Rattle.headroom_print.specs.Words.{is_some_count, lacks}
use Rattle.headroom_print.proofs.Enclosed.{built, lacks_told}
use Rattle.headroom_print.proofs.line_kinds.counts.put_lacks.Goals as goal

pub returns : goal.returns
returns c =
    let told = lacks_told c.lacking.result ∙ ap (λ ls. flat_map member_tokens
    (map count_named (filter is_some_count ls))) c.lacking.ensures in
    built _ (map count_named (lacks c.args.reasons.now)) c.end.result c.in_ok-begin.ensures
    (subst (λ ts. AddsTokens c.begin.new.line c.add_lacks.new.line ts) told c.in_ok-add_lacks.ensures)
    c.end.ensures
