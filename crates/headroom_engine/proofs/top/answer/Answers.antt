use Rattle.std.proofs.Common.{refl}
use Rattle.headroom_engine.proofs.Endings.{answers_end, fault_ends}
use Rattle.headroom_engine.proofs.top.answer.Goals as goal

pub returns-in-Ok : goal.returns-in-Ok
returns-in-Ok g c =
    answers_end g.P.Planner.text g.P.Planner.verdict c.args.asked _ _ c.in-Ok.dump
    (record {
      reads = c.in-Ok.ensures.reads;
      no_fault = c.in-Ok.ensures.cause.stood refl;
      sound =
          c.in-Ok.ensures.facts;
    })
    c.print_plan.result c.print_plan.ensures

pub returns-in-Err : goal.returns-in-Err
returns-in-Err g c =
    fault_ends g.P.Planner.text g.P.Planner.verdict c.args.asked _ _ c.in-Err.ending c.print_fault.result
    c.in-Err.ensures.reads c.in-Err.ensures.cause c.print_fault.ensures
