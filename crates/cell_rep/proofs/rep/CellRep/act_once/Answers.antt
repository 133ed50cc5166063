use Rattle.std.proofs.Common.{sym}
use Rattle.cell_rep.specs.Follows.{stage}
use Rattle.cell_rep.proofs.Chains.{Acts-begun}
use Rattle.cell_rep.proofs.rep.CellRep.act_once.Goals as goal

pub returns-in-Ok-clause-acted : goal.returns-in-Ok-clause-acted
returns-in-Ok-clause-acted g c =
    Acts-begun _ c.args.act.now c.args.now (stage c.args.self.now _ _ _ c.args.out.now.items) _ c.begin.new.self _
    c.reserve.new.self.items
    (sym c.in-Ok.ensures.todo) c.in-Ok.ensures.begun c.in_ok-reserve.ensures.items c.in-Ok.ensures.cell
    c.perform.ensures.performs
