use Rattle.std.proofs.Common.{subst}
use Rattle.std.proofs.lemmas.Result.{IfErr-weaker}
use Rattle.converge_round.specs.Faults.{IsFaultOf}
use Rattle.converge_round.proofs.FaultLaws.{caused_one}
use Rattle.converge_round.proofs.StartLaws.{own_one}
use Rattle.converge_round.proofs.Sure.{sure_one}
use Rattle.converge_round.proofs.starting.start_next.Goals as goal

pub returns-clause-own : goal.returns-clause-own
returns-clause-own g c = own_one _ c.args.now _ c.send_start-claimed.result _ _
    c.send_start-claimed.ensures.start c.send_start-claimed.ensures.starts

pub returns-clause-cause : goal.returns-clause-cause
returns-clause-cause g c =
    IfErr-weaker c.keep.result (IsFaultOf c.send_start-claimed.result.end) _
    (λ why. caused_one _ c.args.now c.send_start-claimed.result _ _ why c.send_start-claimed.ensures.starts) c.keep.ensures.cause

pub returns-clause-sure : goal.returns-clause-sure
returns-clause-sure g c =
    sure_one _ c.args.now c.send_start-claimed.result _ _ c.keep.result c.send_start-claimed.ensures.starts c.keep.ensures.told
