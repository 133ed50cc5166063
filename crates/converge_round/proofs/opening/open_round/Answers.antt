use Rattle.std.proofs.Common.{◌∙◌, refl}
use Rattle.bbs_model.specs.Work.{work}
use Rattle.converge_round.specs.Callings.{calling}
use Rattle.converge_round.specs.Sendings.{wire_at}
use Rattle.converge_round.proofs.Asked.{first_none, first_look, first_work, first_plan, first_ended, first_opened}
use Rattle.converge_round.proofs.RepLaws.{index-kept, keep-same}
use Rattle.converge_round.proofs.RoundLaws.{called_by, planned_by, stopped_by, placed_by}
use Rattle.converge_round.proofs.SeenRows.{seen-now}
use Rattle.bbs_model.proofs.Public.{later_looks, later_then}
use Rattle.converge_round.proofs.FaultLaws.{caused_by_want, caused_before}
use Rattle.converge_round.proofs.Sure.{sure_looks, sure_then, sure_fault}
use Rattle.converge_round.proofs.opening.open_round.Goals as goal

pub place_work-requires-clause-index : goal.place_work-requires-clause-index
place_work-requires-clause-index g c = index-kept _ _ c.args.index.now c.stop_strays.ensures.cells c.requires

pub place_work-requires-clause-seen : goal.place_work-requires-clause-seen
place_work-requires-clause-seen g c = seen-now _ _ c.in-Ok-stop_strays.ensures.seen

pub returns-in-Err-clause-own : goal.returns-in-Err-clause-own
returns-in-Err-clause-own g c = first_ended _ _ _ _ _ _ _ (first_none _ _ _ _ _ c.hear.ensures.looks)

pub returns-in-Err-call_work-clause-keeps : goal.returns-in-Err-call_work-clause-keeps
returns-in-Err-call_work-clause-keeps g c = (g.met.P.Port.goes_on c.args.port.now c.hear.new.port c.call_work.new.port
    c.hear.ensures.keeps c.call_work.ensures.keeps)

pub returns-in-Err-call_work-clause-own : goal.returns-in-Err-call_work-clause-own
returns-in-Err-call_work-clause-own g c = first_ended _ _ _ _ _ _ _
    (first_work _ _ _ _ _ _ _ c.hear.ensures.number c.hear.ensures.looks c.call_work.ensures.own)

pub returns-in-Err-call_plan-clause-keeps : goal.returns-in-Err-call_plan-clause-keeps
returns-in-Err-call_plan-clause-keeps g c = (g.met.P.Port.goes_on c.args.port.now c.call_work.new.port
    c.call_plan.new.port (g.met.P.Port.goes_on c.args.port.now c.hear.new.port c.call_work.new.port c.hear.ensures.keeps
    c.call_work.ensures.keeps) c.call_plan.ensures.keeps)

pub returns-in-Err-call_plan-clause-own : goal.returns-in-Err-call_plan-clause-own
returns-in-Err-call_plan-clause-own g c =
    first_ended _ _ _ _ _ _ _ (first_plan _ _ _ _ _ _ _ c.in-Ok.both.0 c.items.result.now _ _ _ _ c.hear.ensures.number
    (c.call_work.ensures.number ∙ c.hear.ensures.number) c.hear.ensures.looks c.in-Ok.ensures.heard c.items.ensures
    c.call_work.ensures.own c.call_plan.ensures.own)

pub returns-in-Err-stop_strays-clause-keeps : goal.returns-in-Err-stop_strays-clause-keeps
returns-in-Err-stop_strays-clause-keeps g c = (g.met.P.Port.goes_on c.args.port.now c.call_plan.new.port
    c.stop_strays.new.port (g.met.P.Port.goes_on c.args.port.now c.call_work.new.port c.call_plan.new.port
    (g.met.P.Port.goes_on c.args.port.now c.hear.new.port c.call_work.new.port c.hear.ensures.keeps
    c.call_work.ensures.keeps) c.call_plan.ensures.keeps) c.stop_strays.ensures.keeps)

pub returns-in-Err-stop_strays-clause-own : goal.returns-in-Err-stop_strays-clause-own
returns-in-Err-stop_strays-clause-own g c =
    first_ended _ _ _ _ _ _ _ (first_look _ _ _ _ _ _ _ (first_plan _ _ _ _ _ _ _ c.in-Ok.both.0 c.items.result.now _ _ _
    _ c.hear.ensures.number (c.call_work.ensures.number ∙ c.hear.ensures.number) c.hear.ensures.looks
    c.in-Ok.ensures.heard c.items.ensures c.call_work.ensures.own c.call_plan.ensures.own)
    c.stop_strays.ensures.looks)

pub returns-in-Err-place_work-clause-keeps : goal.returns-in-Err-place_work-clause-keeps
returns-in-Err-place_work-clause-keeps g c = (g.met.P.Port.goes_on c.args.port.now c.stop_strays.new.port
    c.place_work.new.port (g.met.P.Port.goes_on c.args.port.now c.call_plan.new.port c.stop_strays.new.port
    (g.met.P.Port.goes_on c.args.port.now c.call_work.new.port c.call_plan.new.port
    (g.met.P.Port.goes_on c.args.port.now c.hear.new.port c.call_work.new.port c.hear.ensures.keeps
    c.call_work.ensures.keeps) c.call_plan.ensures.keeps) c.stop_strays.ensures.keeps) c.place_work.ensures.keeps)

pub returns-in-Err-place_work-clause-own : goal.returns-in-Err-place_work-clause-own
returns-in-Err-place_work-clause-own g c =
    first_ended _ _ _ _ _ _ _ (first_look _ _ _ _ _ _ _ (first_look _ _ _ _ _ _ _
    (first_plan _ _ _ _ _ _ _ c.in-Ok.both.0 c.items.result.now _ _ _ _ c.hear.ensures.number
    (c.call_work.ensures.number ∙ c.hear.ensures.number) c.hear.ensures.looks c.in-Ok.ensures.heard c.items.ensures
    c.call_work.ensures.own c.call_plan.ensures.own) c.stop_strays.ensures.looks) c.place_work.ensures.looks)

pub returns-clause-keeps : goal.returns-clause-keeps
returns-clause-keeps g c = (g.met.P.Port.goes_on c.args.port.now c.stop_strays.new.port c.place_work.new.port
    (g.met.P.Port.goes_on c.args.port.now c.call_plan.new.port c.stop_strays.new.port
    (g.met.P.Port.goes_on c.args.port.now c.call_work.new.port c.call_plan.new.port
    (g.met.P.Port.goes_on c.args.port.now c.hear.new.port c.call_work.new.port c.hear.ensures.keeps
    c.call_work.ensures.keeps) c.call_plan.ensures.keeps) c.stop_strays.ensures.keeps) c.place_work.ensures.keeps)

pub returns-clause-own : goal.returns-clause-own
returns-clause-own g c =
    first_opened _ _ _ _ c.in-Ok.both.0.got _ _ _ _ _ _ c.in-Ok-stop_strays.stops c.opening_of.result
    (first_plan _ _ _ _ _ _ _ c.in-Ok.both.0 c.items.result.now _ _ _ _ c.hear.ensures.number
    (c.call_work.ensures.number ∙ c.hear.ensures.number) c.hear.ensures.looks c.in-Ok.ensures.heard c.items.ensures
    c.call_work.ensures.own c.call_plan.ensures.own)
    c.stop_strays.ensures.looks c.place_work.ensures.looks c.stop_strays.ensures.cells
    (stopped_by _ c.in-Ok.both.0.got c.items-2.result.now _ _ _ c.items-2.ensures c.in-Ok-stop_strays.ensures.stops)
    (placed_by _ _ c.in-Ok.both.0.got c.items-3.result.now c.in-Ok-place_work.places _ c.items-3.ensures
    c.opening_of.ensures.places c.in-Ok-place_work.ensures.placed)

pub returns-clause-opened : goal.returns-clause-opened
returns-clause-opened g c = record {
  first = g.P.Port.view c.hear.new.port;
  looks = c.hear.ensures.looks;
  hearing = c.in-Ok.both.0;
  wire = wire_at (g.W.Wire.ends c.hear.new.wire) (g.W.Wire.losses c.hear.new.wire);
  heard = c.in-Ok.ensures.heard;
  worked = calling (g.P.Port.view c.call_work.new.port) c.call_work.new.tally;
  work_called = called_by _ _ (λ rows. work rows c.args.now) _ _ c.hear.ensures.number c.in-Ok-call_work.ensures.called;
  planned = calling (g.P.Port.view c.call_plan.new.port) c.call_plan.new.tally;
  plan_called = planned_by _ _ c.args.now c.in-Ok.both.0.got c.items.result.now _ _
      (c.call_work.ensures.number ∙ c.hear.ensures.number) c.items.ensures c.in-Ok-call_plan.ensures.called;
  third = g.P.Port.view c.stop_strays.new.port;
  looks_third = c.stop_strays.ensures.looks;
  stops = c.in-Ok-stop_strays.stops;
  stopped = stopped_by _ c.in-Ok.both.0.got c.items-2.result.now _ _ _ c.items-2.ensures
      c.in-Ok-stop_strays.ensures.stops;
  looks_last = c.place_work.ensures.looks;
  placed = placed_by _ _ c.in-Ok.both.0.got c.items-3.result.now c.in-Ok-place_work.places _ c.items-3.ensures
      c.opening_of.ensures.places c.in-Ok-place_work.ensures.placed;
  asked_is = c.opening_of.ensures.asked;
  lost_is = c.opening_of.ensures.lost;
  stopped_is = c.opening_of.ensures.stopped;
  tally_is = refl;
}

pub returns-in-Err-clause-cells : goal.returns-in-Err-clause-cells
returns-in-Err-clause-cells g c = keep-same _

pub returns-in-Err-call_work-clause-cells : goal.returns-in-Err-call_work-clause-cells
returns-in-Err-call_work-clause-cells g c = keep-same _

pub returns-in-Err-call_plan-clause-cells : goal.returns-in-Err-call_plan-clause-cells
returns-in-Err-call_plan-clause-cells g c = keep-same _

pub returns-in-Err-clause-cause : goal.returns-in-Err-clause-cause
returns-in-Err-clause-cause g c = caused_by_want _ _ _

pub returns-in-Err-call_work-clause-cause : goal.returns-in-Err-call_work-clause-cause
returns-in-Err-call_work-clause-cause g c =
    caused_before _ _ _ _ _ _ c.hear.ensures.number (later_looks _ _ c.hear.ensures.looks)
    c.in-Err-call_work.ensures.cause

pub returns-in-Err-call_plan-clause-cause : goal.returns-in-Err-call_plan-clause-cause
returns-in-Err-call_plan-clause-cause g c =
    caused_before _ _ _ _ _ _ (c.call_work.ensures.number ∙ c.hear.ensures.number)
    (later_then _ _ _ (later_looks _ _ c.hear.ensures.looks) c.call_work.ensures.own.later)
    c.in-Err-call_plan.ensures.cause

pub returns-in-Err-stop_strays-clause-cause : goal.returns-in-Err-stop_strays-clause-cause
returns-in-Err-stop_strays-clause-cause g c = caused_by_want _ _ _

pub returns-in-Err-place_work-clause-cause : goal.returns-in-Err-place_work-clause-cause
returns-in-Err-place_work-clause-cause g c = caused_by_want _ _ _

pub returns-in-Err-clause-sure : goal.returns-in-Err-clause-sure
returns-in-Err-clause-sure g c = sure_looks _ _ c.hear.ensures.looks

pub returns-in-Err-call_work-clause-sure : goal.returns-in-Err-call_work-clause-sure
returns-in-Err-call_work-clause-sure g c =
    sure_fault c.in-Err-call_work.fault _ _ _ (sure_looks _ _ c.hear.ensures.looks) c.in-Err-call_work.ensures.sure

pub returns-in-Err-call_plan-clause-sure : goal.returns-in-Err-call_plan-clause-sure
returns-in-Err-call_plan-clause-sure g c =
    sure_fault c.in-Err-call_plan.fault _ _ _
    (sure_then _ _ _ (sure_looks _ _ c.hear.ensures.looks) c.in-Ok-call_work.ensures.sure)
    c.in-Err-call_plan.ensures.sure

pub returns-in-Err-stop_strays-clause-sure : goal.returns-in-Err-stop_strays-clause-sure
returns-in-Err-stop_strays-clause-sure g c =
    sure_then _ _ _ (sure_then _ _ _ (sure_then _ _ _ (sure_looks _ _ c.hear.ensures.looks)
    c.in-Ok-call_work.ensures.sure) c.in-Ok-call_plan.ensures.sure) (sure_looks _ _ c.stop_strays.ensures.looks)

pub returns-in-Err-place_work-clause-sure : goal.returns-in-Err-place_work-clause-sure
returns-in-Err-place_work-clause-sure g c =
    sure_then _ _ _ (sure_then _ _ _ (sure_then _ _ _ (sure_then _ _ _ (sure_looks _ _ c.hear.ensures.looks)
    c.in-Ok-call_work.ensures.sure) c.in-Ok-call_plan.ensures.sure) (sure_looks _ _ c.stop_strays.ensures.looks))
    (sure_looks _ _ c.place_work.ensures.looks)

pub returns-clause-sure : goal.returns-clause-sure
returns-clause-sure g c =
    sure_then _ _ _ (sure_then _ _ _ (sure_then _ _ _ (sure_then _ _ _ (sure_looks _ _ c.hear.ensures.looks)
    c.in-Ok-call_work.ensures.sure) c.in-Ok-call_plan.ensures.sure) (sure_looks _ _ c.stop_strays.ensures.looks))
    (sure_looks _ _ c.place_work.ensures.looks)
