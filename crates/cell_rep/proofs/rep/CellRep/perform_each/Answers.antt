use Rattle.std.proofs.Common.{◌∙◌, refl, arith}
use Rattle.cell_rep.specs.Acts.{each_todo}
use Rattle.cell_rep.proofs.Chains.{Performs-none, Performs-more, idle-more}
use Rattle.cell_rep.proofs.rep.CellRep.perform_each.Goals as goal

pub loop-container-init : goal.loop-container-init
loop-container-init g c = record {
  performs = Performs-none _ _ _;
  keeps = g.met.P.Port.same c.args.port.now;
  number = refl;
  cell = refl;
  room = omega arith;
  capacity = refl;
  idle = refl;
}

pub loop-container-preserved : goal.loop-container-preserved
loop-container-preserved g c =
    let i = c.loop-container.invariant in
    let p = c.perform_for-idle.ensures in
    let asked = c.args.asked.now in
    record {
      performs = Performs-more _ _ _ _ (λ cell. each_todo asked.act asked.moment cell asked.draining)
          c.args.containers.now c.loop-container.container-index c.container-item.result _ _ _ i.number i.cell
          c.loop-container-test.true c.container-item.is i.performs p.performs;
      keeps = g.met.P.Port.goes_on c.args.port.now c.loop-container.port c.perform_for-idle.new.port i.keeps p.keeps;
      number = p.number ∙ i.number;
      cell = p.cell ∙ i.cell;
      room = omega (arith, i.room, p.room.1);
      capacity = p.room.0 ∙ i.capacity;
      idle = idle-more _ _ (λ cell. each_todo asked.act asked.moment cell asked.draining) c.args.containers.now
          c.loop-container.container-index c.container-item.result _ _ i.cell c.loop-container-test.true
          c.container-item.is i.idle p.idle;
    }
