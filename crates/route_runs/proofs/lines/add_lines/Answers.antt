use Rattle.std.proofs.Common.{◌∙◌}
use Rattle.route_emitter.specs.Lines.{route_line}
use Rattle.route_runs.proofs.Adding.{one_more}
use Rattle.route_runs.proofs.lines.add_lines.Goals as goal

pub loop-entry-preserved : goal.loop-entry-preserved
loop-entry-preserved c =
    c.in_ok-extend_from_slice.ensures.items
    ∙ one_more (route_line c.args.register) c.args.entries.now c.loop-entry.entry-index c.entry-item.result
    c.loop-entry-test.true c.entry-item.is
    c.args.text.now.items c.loop-entry.text.items c.deref.result.now c.loop-entry.invariant
    (c.deref.ensures.value ∙ c.in_ok-route_text.ensures)
