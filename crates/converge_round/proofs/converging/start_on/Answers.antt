use Rattle.std.proofs.Common.{List, inl, subst}
use Rattle.cell_records.specs.declared.job.Job.{Job}
use Rattle.converge_round.specs.Callings.{AreOf}
use Rattle.converge_round.specs.Phases.{ClaimsAt, course}
use Rattle.converge_round.specs.Sendings.{wire_at}
use Rattle.converge_round.specs.Starts.{IsClaimOfOne}
use Rattle.converge_round.specs.Reps.{names_of}
use Rattle.converge_round.proofs.Owns.{own_none}
use Rattle.converge_round.proofs.RepLaws.{keep-same, place-within}
use Rattle.std.proofs.lemmas.Result.{on_ok_weaker}
use Rattle.converge_round.proofs.Sure.{sure_none}
use Rattle.converge_round.proofs.converging.start_on.Goals as goal

pub returns-in-None-clause-own : goal.returns-in-None-clause-own
returns-in-None-clause-own g c = own_none _ _ _

pub returns-in-None-clause-cells : goal.returns-in-None-clause-cells
returns-in-None-clause-cells g c = keep-same _

pub claim_at-requires : goal.claim_at-requires
claim_at-requires g c = place-within c.args.cells.now _ _
    (c.in-Some.ensures (names_of c.args.cells.now) c.requires.index)

pub returns-in-Some-clause-own : goal.returns-in-Some-clause-own
returns-in-Some-clause-own g c =
    subst (λ (l : List Job). AreOf (g.P.Port.number c.args.port.now) (IsClaimOfOne c.args.now c.args.answer.now.cell l)
    (g.P.Port.view c.args.port.now) (g.P.Port.view c.claim_at.new.port))
    (c.on-jobs.ensures c.args.places.now.rows c.args.places.now.placements c.requires.kept)
    (c.claim_at.ensures.own c.args.answer.now.cell (c.in-Some.ensures (names_of c.args.cells.now) c.requires.index))

pub returns-in-Some-clause-serves : goal.returns-in-Some-clause-serves
returns-in-Some-clause-serves g c =
    on_ok_weaker c.claim_at.result (λ h.
    inl (subst (λ (l : List Job). ClaimsAt (g.P.Port.number c.args.port.now) c.args.now c.args.answer.now.cell l
    (course (g.P.Port.view c.args.port.now) c.args.tally.now c.args.cells.now
    (wire_at (g.W.Wire.ends c.args.wire.now) (g.W.Wire.losses c.args.wire.now)))
    (course (g.P.Port.view c.claim_at.new.port) c.claim_at.new.tally c.claim_at.new.cells
    (wire_at (g.W.Wire.ends c.claim_at.new.wire) (g.W.Wire.losses c.claim_at.new.wire))))
    (c.on-jobs.ensures c.args.places.now.rows c.args.places.now.placements c.requires.kept)
    (h c.args.answer.now.cell (c.in-Some.ensures (names_of c.args.cells.now) c.requires.index))))
    c.claim_at.ensures.serves

pub returns-in-None-clause-sure : goal.returns-in-None-clause-sure
returns-in-None-clause-sure g c = sure_none _
