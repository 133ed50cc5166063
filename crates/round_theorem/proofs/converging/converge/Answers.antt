use Rattle.bbs_model.specs.PortView.{rows_seen}
use Rattle.convergence.specs.declared.report.Report.{Report}
use Rattle.converge_laws.specs.Converged.{IsConverged}
use Rattle.converge_round.specs.Askings.{StandApart}
use Rattle.converge_round.specs.Reps.{names_of}
use Rattle.converge_round.specs.Rounds.{Standing, IsRound, standing}
use Rattle.converge_round.specs.Sendings.{wire_at}
use Rattle.converge_round.proofs.Public.{if_ok}
use Rattle.round_theorem.specs.Complete.{IsComplete}
use Rattle.round_theorem.proofs.Converges.{complete-converges}
use Rattle.round_theorem.proofs.converging.converge.Goals as goal

pub returns-clause-converged : goal.returns-clause-converged
returns-clause-converged g c =
    let before : Standing = standing (g.P.Port.view c.args.port.now) c.args.cells.now
    (wire_at (g.W.Wire.ends c.args.wire.now) (g.W.Wire.losses c.args.wire.now)) in
    let after : Standing = standing (g.P.Port.view c.round.new.port) c.round.new.cells
    (wire_at (g.W.Wire.ends c.round.new.wire) (g.W.Wire.losses c.round.new.wire)) in
    if_ok (λ (r : Report). IsRound (g.P.Port.number c.args.port.now) c.args.now c.args.line before after r)
    (λ (r : Report). StandApart (names_of c.args.cells.now) → IsComplete r
    → IsConverged (rows_seen (g.P.Port.view c.round.new.port)) r.stores.value c.args.now)
    c.round.result
    (λ r h apart complete. complete-converges (g.P.Port.number c.args.port.now) c.args.now c.args.line before after r h
    apart complete)
    c.round.ensures.account
