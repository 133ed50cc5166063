use Rattle.std.proofs.Common.{◌≡◌, ◌≤◌, ◌∙◌, List, [], length, subst, ap, refl, arith}
use Rattle.cell_records.specs.declared.cell_row.CellRow.{CellRow}
use Rattle.converge_round.specs.Askings.{present, AsksOne, questions}
use Rattle.converge_round.specs.Each.{Each}
use Rattle.converge_round.specs.Sendings.{wire_at}
use Rattle.converge_round.proofs.Apart.{few_present, heard_apart}
use Rattle.converge_round.proofs.opening.hear_of.Goals as goal

pub overflow_cast-result : goal.overflow_cast-result
overflow_cast-result g c =
    let same : c.len.result ≡ length (present c.args.rows.now c.args.now) =
    c.len.ensures ∙ ap length c.in_ok-present.ensures in
    let few : length (present c.args.rows.now c.args.now) ≤ 1000 =
    few_present c.args.rows.now c.args.now c.requires.valid in
    omega (arith, same, few)

pub returns : goal.returns
returns g c =
    let got : Each (AsksOne c.args.cells.now) (present c.args.rows.now c.args.now)
    (questions (wire_at (g.W.Wire.ends c.args.wire.now) (g.W.Wire.losses c.args.wire.now)) [])
    (questions (wire_at (g.W.Wire.ends c.ask_each.new.wire) (g.W.Wire.losses c.ask_each.new.wire)) c.in_ok-got.got) =
    subst (λ (xs : List CellRow). Each (AsksOne c.args.cells.now) xs
    (questions (wire_at (g.W.Wire.ends c.args.wire.now) (g.W.Wire.losses c.args.wire.now)) [])
    (questions (wire_at (g.W.Wire.ends c.ask_each.new.wire) (g.W.Wire.losses c.ask_each.new.wire)) c.in_ok-got.got))
    (c.items.ensures ∙ c.in_ok-present.ensures) c.in_ok-got.ensures in
    record {
      valid = c.requires.valid;
      asked = c.len.ensures ∙ ap length c.in_ok-present.ensures;
      got = got;
      apart = heard_apart c.args.rows.now c.args.now c.args.cells.now _ _ c.requires.valid refl got;
    }
