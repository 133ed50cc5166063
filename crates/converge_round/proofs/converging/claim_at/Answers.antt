use Rattle.std.proofs.Common.{◌≡◌, subst, get_or}
use Rattle.std.specs.Prelude.{OnOk}
use Rattle.converge_round.specs.Callings.{AreOf}
use Rattle.converge_round.specs.Sendings.{wire_at}
use Rattle.converge_round.specs.Starts.{IsClaimOfOne, counted_all}
use Rattle.converge_round.proofs.RoundLaws.{claims_at}
use Rattle.converge_round.proofs.RepLaws.{keep-set, place-cell, rep_read}
use Rattle.converge_round.proofs.FaultLaws.{caused_by_nothing_else}
use Rattle.converge_round.proofs.Sure.{sure_any}
use Rattle.converge_round.proofs.converging.claim_at.Goals as goal

pub returns-in-Err-clause-own : goal.returns-in-Err-clause-own
returns-in-Err-clause-own g c cell e =
    let cells = c.args.cells.now in
    let d = c.index-cells-at.result in
    subst (λ n. AreOf (g.P.Port.number c.args.port.now) (IsClaimOfOne c.args.now n c.args.jobs.now)
    (g.P.Port.view c.args.port.now) (g.P.Port.view c.claim_on.new.port))
    (place-cell cells c.args.at cell (get_or cells c.args.at d) e (rep_read cells c.args.at d c.requires))
    c.claim_on.ensures.own

pub returns-in-Ok-clause-own : goal.returns-in-Ok-clause-own
returns-in-Ok-clause-own g c cell e =
    let cells = c.args.cells.now in
    let d = c.index-cells-at.result in
    subst (λ n. AreOf (g.P.Port.number c.args.port.now) (IsClaimOfOne c.args.now n c.args.jobs.now)
    (g.P.Port.view c.args.port.now) (g.P.Port.view c.claim_on.new.port))
    (place-cell cells c.args.at cell (get_or cells c.args.at d) e (rep_read cells c.args.at d c.requires))
    c.claim_on.ensures.own

pub returns-in-Err-clause-cells : goal.returns-in-Err-clause-cells
returns-in-Err-clause-cells g c =
    let cells = c.args.cells.now in
    let d = c.index-cells-at.result in
    keep-set cells c.args.at (get_or cells c.args.at d) c.claim_on.new.rep c.requires
    (rep_read cells c.args.at d c.requires) c.claim_on.ensures.rep

pub returns-in-Ok-clause-cells : goal.returns-in-Ok-clause-cells
returns-in-Ok-clause-cells g c =
    let cells = c.args.cells.now in
    let d = c.index-cells-at.result in
    keep-set cells c.args.at (get_or cells c.args.at d) c.claim_on.new.rep c.requires
    (rep_read cells c.args.at d c.requires) c.claim_on.ensures.rep

pub returns-in-Ok-clause-serves : goal.returns-in-Ok-clause-serves
returns-in-Ok-clause-serves g c =
    claims_at c.count_all.result (g.P.Port.number c.args.port.now) c.args.now c.args.jobs.now c.in-Ok.ends
    (g.P.Port.view c.args.port.now) (g.P.Port.view c.claim_on.new.port) c.args.tally.now c.args.cells.now
    c.count_all.new.tally
    (wire_at (g.W.Wire.ends c.args.wire.now) (g.W.Wire.losses c.args.wire.now)) c.args.at c.index-cells-at.result
    c.claim_on.new.rep
    (wire_at (g.W.Wire.ends c.claim_on.new.wire) (g.W.Wire.losses c.claim_on.new.wire)) c.requires
    c.in-Ok.ensures.claims c.in-Ok.ensures.fine
    (subst (λ xs. OnOk c.count_all.result (c.count_all.new.tally ≡ counted_all xs c.args.tally.now)) c.items.ensures
    c.count_all.ensures.counts)

pub returns-in-Ok-clause-cause : goal.returns-in-Ok-clause-cause
returns-in-Ok-clause-cause g c = caused_by_nothing_else c.count_all.result _ _ _ c.count_all.ensures.memory

pub returns-in-Ok-clause-sure : goal.returns-in-Ok-clause-sure
returns-in-Ok-clause-sure g c = sure_any c.count_all.result _ _ c.in-Ok.ensures.sure
