use Rattle.std.proofs.Common.{rules, ◌≡◌, ◌∙◌, ℕ, [], ◌++◌, ap}
use Rattle.scenario_maker.specs.Draws.{behind, first_number}
use Rattle.scenario_maker.specs.Generated.{desire_phase, each_below, generated, join_phase, update_phases_behind}
use Rattle.scenario_maker.proofs.Steps.{three_more}
use Rattle.scenario_maker.proofs.making.generate.Goals as goal

pub returns : goal.returns
unfolding generated
returns c =
    let first = c.new-draws.ensures in
    let joins : c.add_joins.new.text.items ≡ [] ++ each_below 10 join_phase = search rules in
    let desires : c.add_desire_phase.new.text.items ≡ c.add_joins.new.text.items
    ++ desire_phase (first_number c.args.number) =
    c.in_ok-add_desire_phase.ensures.text ∙ ap (λ (k : ℕ). c.add_joins.new.text.items ++ desire_phase k) first in
    let last = c.in_ok-add_desire_phase.ensures.draws ∙ ap (behind 100) first in
    let rounds : c.add_rounds.new.text.items
    ≡ c.add_desire_phase.new.text.items ++ each_below 20 (update_phases_behind
    (behind 100 (first_number c.args.number))) =
    c.in_ok-add_rounds.ensures
    ∙ ap (λ (k : ℕ). c.add_desire_phase.new.text.items ++ each_below 20 (update_phases_behind k)) last in
    three_more [] (each_below 10 join_phase) (desire_phase (first_number c.args.number))
    (each_below 20 (update_phases_behind (behind 100 (first_number c.args.number)))) _ _ _ joins desires rounds
