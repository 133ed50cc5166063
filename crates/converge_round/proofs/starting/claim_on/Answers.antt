use Rattle.std.proofs.Common.{refl, sym, subst, ◌∙◌}
use Rattle.converge_round.specs.Starts.{AreFine, Claims, IsClaimOfOne}
use Rattle.converge_round.proofs.Owns.{own_none, own_more}
use Rattle.converge_round.proofs.RepLaws.{rep_same, rep_then}
use Rattle.converge_round.proofs.StartLaws.{claim_of_one, claims_more, fine_more}
use Rattle.converge_round.proofs.FaultLaws.{caused_before}
use Rattle.converge_round.proofs.Sure.{sure_none, sure_then, sure_fault}
use Rattle.converge_round.proofs.starting.claim_on.Goals as goal

pub loop-job-init : goal.loop-job-init
loop-job-init g c = record {
  keeps = g.met.P.Port.same c.args.port.now;
  number = refl;
  own = own_none _ _ _;
  sure = sure_none _;
  rep = rep_same c.args.rep.now;
  claims = subst (Claims _ _ _ _ _) (sym c.new-ends.ensures) (record { starts = refl; each = refl });
  fine = subst AreFine (sym c.new-ends.ensures) tt;
}

pub loop-job-preserved : goal.loop-job-preserved
loop-job-preserved g c =
    let i = c.loop-job.invariant in
    let p = c.in-Ok.ensures in
    let list = c.args.jobs.now in
    let k = c.loop-job.job-index in
    record {
      keeps = g.met.P.Port.goes_on c.args.port.now c.loop-job.port c.start_next.new.port i.keeps p.keeps;
      number = p.number ∙ i.number;
      own = own_more _ _ (IsClaimOfOne c.args.now c.args.rep.now.cell list) _ _ _ _ i.number
          (claim_of_one c.args.now c.args.rep.now.cell c.loop-job.rep.cell list k c.job-item.result i.rep.cell
          c.loop-job-test.true c.job-item.is) i.own p.own;
      sure = sure_then _ _ _ i.sure p.sure;
      rep = rep_then _ _ _ i.rep p.rep;
      claims = claims_more _ _ c.args.now list k c.job-item.result _ _ _ _ _ i.number i.rep.cell
          c.loop-job-test.true c.job-item.is i.claims p.starts;
      fine = fine_more _ c.args.now c.job-item.result _ _ _ _ i.fine p.starts;
    }

pub returns-in-Err-clause-own : goal.returns-in-Err-clause-own
returns-in-Err-clause-own g c =
    let i = c.loop-job.invariant in
    let list = c.args.jobs.now in
    own_more _ _ (IsClaimOfOne c.args.now c.args.rep.now.cell list) _ _ _ _ i.number
    (claim_of_one c.args.now c.args.rep.now.cell c.loop-job.rep.cell list c.loop-job.job-index c.job-item.result
    i.rep.cell c.loop-job-test.true c.job-item.is) i.own c.in-Err.ensures.own

pub returns-in-Err-clause-rep : goal.returns-in-Err-clause-rep
returns-in-Err-clause-rep g c = rep_then _ _ _ c.loop-job.invariant.rep c.in-Err.ensures.rep

pub returns-in-Err-clause-cause : goal.returns-in-Err-clause-cause
returns-in-Err-clause-cause g c =
    let i = c.loop-job.invariant in
    caused_before _ _ _ _ _ _ i.number i.own.later c.in-Err.ensures.cause

pub returns-in-Err-clause-sure : goal.returns-in-Err-clause-sure
returns-in-Err-clause-sure g c =
    sure_fault c.in-Err.fault _ _ _ c.loop-job.invariant.sure c.in-Err.ensures.sure
