use Rattle.std.proofs.Common.{refl, ◌∙◌}
use Rattle.std.specs.List.{Contains}
use Rattle.converge_round.specs.Callings.{IsNoted}
use Rattle.converge_round.proofs.Eachs.{each-more-by}
use Rattle.converge_round.proofs.FaultLaws.{caused_before}
use Rattle.converge_round.proofs.Owns.{own_none, own_more, contains-as}
use Rattle.converge_round.proofs.Sure.{sure_none, sure_then, sure_fault}
use Rattle.converge_round.proofs.calls.call_each.Goals as goal

pub loop-command-init : goal.loop-command-init
loop-command-init g c = record {
  keeps = g.met.P.Port.same c.args.port.now;
  number = refl;
  own = own_none _ _ _;
  sure = sure_none _;
  noted = refl;
}

pub loop-command-preserved : goal.loop-command-preserved
loop-command-preserved g c =
    let i = c.loop-command.invariant in
    let p = c.in-Ok.ensures in
    let list = c.args.commands.now in
    let k = c.loop-command.command-index in
    record {
      keeps = g.met.P.Port.goes_on c.args.port.now c.loop-command.port c.call_once.new.port i.keeps p.keeps;
      number = p.number ∙ i.number;
      own = own_more _ _ (Contains list) _ _ _ _ i.number (contains-as list k c.command-item.result
          c.loop-command-test.true c.command-item.is) i.own p.own;
      sure = sure_then _ _ _ i.sure p.sure;
      noted = each-more-by IsNoted _ _ list k c.command-item.result _ _ _ i.number c.loop-command-test.true
          c.command-item.is i.noted p.noted;
    }

pub returns-in-Err-clause-own : goal.returns-in-Err-clause-own
returns-in-Err-clause-own g c =
    let i = c.loop-command.invariant in
    let list = c.args.commands.now in
    own_more _ _ (Contains list) _ _ _ _ i.number (contains-as list c.loop-command.command-index c.command-item.result
    c.loop-command-test.true c.command-item.is) i.own c.in-Err.ensures.own

pub returns-in-Err-clause-cause : goal.returns-in-Err-clause-cause
returns-in-Err-clause-cause g c =
    let i = c.loop-command.invariant in
    caused_before _ _ _ _ _ _ i.number i.own.later c.in-Err.ensures.cause

pub returns-in-Err-clause-sure : goal.returns-in-Err-clause-sure
returns-in-Err-clause-sure g c =
    sure_fault c.in-Err.fault _ _ _ c.loop-command.invariant.sure c.in-Err.ensures.sure
