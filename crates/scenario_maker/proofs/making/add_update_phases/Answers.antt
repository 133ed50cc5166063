use Rattle.std.proofs.Common.{rules, ◌≡◌, ◌++◌, ◌+◌}
use Rattle.scenario_maker.specs.Generated.{each_below, update_of}
use Rattle.scenario_maker.specs.Lines.{at_line, round_line}
use Rattle.scenario_maker.proofs.Steps.{four_more}
use Rattle.scenario_maker.proofs.making.add_update_phases.Goals as goal

pub returns-clause-text : goal.returns-clause-text
returns-clause-text c =
    let at = c.args.at in
    let begun : c.extend_from_slice.new.self.items ≡ c.args.text.now.items ++ at_line at = search rules in
    let updated : c.add_updates.new.text.items ≡ c.extend_from_slice.new.self.items
    ++ each_below 97 (update_of c.args.draws.now.last) = search rules in
    let later : c.extend_from_slice-2.new.self.items ≡ c.add_updates.new.text.items ++ at_line (at + 1) =
    search rules in
    let round : c.extend_from_slice-3.new.self.items ≡ c.extend_from_slice-2.new.self.items ++ round_line =
    c.in_ok-extend_from_slice-3.ensures.items in
    four_more _ (at_line at) (each_below 97 (update_of c.args.draws.now.last))
    (at_line (at + 1)) round_line _ _ _ _ begun updated later round
