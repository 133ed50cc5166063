use Rattle.std.proofs.Common.{rules, ◌≡◌, ◌++◌, ◌%◌, ◌∙◌, append_assoc}
use Rattle.scenario_maker.specs.Generated.{join_phase}
use Rattle.scenario_maker.specs.Lines.{at_line, join_line}
use Rattle.scenario_maker.proofs.Steps.{text_before, text_behind}
use Rattle.scenario_maker.proofs.making.add_joins.Goals as goal

pub loop-cell-init : goal.loop-cell-init
loop-cell-init c = text_before join_phase c.args.text.now.items

pub loop-cell-preserved : goal.loop-cell-preserved
loop-cell-preserved c =
    let n = c.loop-cell.cell in
    let at : c.extend_from_slice.new.self.items ≡ c.loop-cell.text.items ++ at_line 0 = search rules in
    let join : c.extend_from_slice-in-loop-cell.new.self.items ≡ c.extend_from_slice.new.self.items
    ++ join_line n (n % 2) = search rules in
    text_behind n join_phase _ _ _ c.loop-cell.invariant (join ∙ rw at
    (append_assoc c.loop-cell.text.items (at_line 0) (join_line n (n % 2))))
