use Rattle.std.proofs.Common.{◌∙◌, refl}
use Rattle.converge_round.specs.Callings.{calling, IsNoted}
use Rattle.converge_round.specs.Phases.{course, ServesOne}
use Rattle.converge_round.specs.Sendings.{wire_at}
use Rattle.converge_round.proofs.Asked.{no_items, first_items, claim_items, note_items, items_look}
use Rattle.converge_round.proofs.RepLaws.{index-kept, keep-same, keep-then}
use Rattle.converge_round.proofs.RoundLaws.{each_by, own_by, first_by, opens_by, report_from}
use Rattle.bbs_model.proofs.Public.{later_looks, later_then}
use Rattle.converge_round.proofs.FaultLaws.{caused_by_want, caused_before}
use Rattle.converge_round.proofs.Sure.{sure_looks, sure_then, sure_fault}
use Rattle.converge_round.proofs.converging.round.Goals as goal

pub start_each-requires-clause-index : goal.start_each-requires-clause-index
start_each-requires-clause-index g c = index-kept _ _ c.in-Ok.index c.open_round.ensures.cells c.in-Ok.ensures

pub returns-in-Err-clause-own : goal.returns-in-Err-clause-own
returns-in-Err-clause-own g c = no_items _ _ _ _ _ c.place-start.ensures.looks

pub returns-in-Err-open_round-clause-keeps : goal.returns-in-Err-open_round-clause-keeps
returns-in-Err-open_round-clause-keeps g c = (g.met.P.Port.goes_on c.args.port.now c.place-start.new.self
    c.open_round.new.port c.place-start.ensures.keeps c.open_round.ensures.keeps)

pub returns-in-Err-open_round-clause-own : goal.returns-in-Err-open_round-clause-own
returns-in-Err-open_round-clause-own g c = first_items _ _ _ _ _ _ _ c.place-start.ensures.looks
    (first_by _ _ _ _ _ _ _ c.place-start.ensures.number c.open_round.ensures.own)

pub returns-in-Err-start_each-clause-keeps : goal.returns-in-Err-start_each-clause-keeps
returns-in-Err-start_each-clause-keeps g c = (g.met.P.Port.goes_on c.args.port.now c.open_round.new.port
    c.start_each.new.port (g.met.P.Port.goes_on c.args.port.now c.place-start.new.self c.open_round.new.port
    c.place-start.ensures.keeps c.open_round.ensures.keeps) c.start_each.ensures.keeps)

pub returns-in-Err-start_each-clause-own : goal.returns-in-Err-start_each-clause-own
returns-in-Err-start_each-clause-own g c = claim_items _ c.args.now _ _ _ _ _ _ _ c.in-Ok-open_round.opening
    c.place-start.ensures.looks (first_by _ _ _ _ _ _ _ c.place-start.ensures.number c.in-Ok-open_round.ensures.own)
    c.in-Ok-open_round.ensures.opened.placed (own_by _ _ _ _ _
    (c.open_round.ensures.number ∙ c.place-start.ensures.number) c.start_each.ensures.own)

pub returns-in-Err-start_each-clause-cells : goal.returns-in-Err-start_each-clause-cells
returns-in-Err-start_each-clause-cells g c = keep-then _ _ _ c.open_round.ensures.cells c.start_each.ensures.cells

pub returns-in-Err-call_fails-clause-keeps : goal.returns-in-Err-call_fails-clause-keeps
returns-in-Err-call_fails-clause-keeps g c = (g.met.P.Port.goes_on c.args.port.now c.start_each.new.port
    c.call_fails.new.port (g.met.P.Port.goes_on c.args.port.now c.open_round.new.port c.start_each.new.port
    (g.met.P.Port.goes_on c.args.port.now c.place-start.new.self c.open_round.new.port c.place-start.ensures.keeps
    c.open_round.ensures.keeps) c.start_each.ensures.keeps) c.call_fails.ensures.keeps)

pub returns-in-Err-call_fails-clause-own : goal.returns-in-Err-call_fails-clause-own
returns-in-Err-call_fails-clause-own g c = note_items _ c.args.now _ _ _ _ _ _ _ _ c.in-Ok-open_round.opening
    c.place-start.ensures.looks (first_by _ _ _ _ _ _ _ c.place-start.ensures.number c.in-Ok-open_round.ensures.own)
    c.in-Ok-open_round.ensures.opened.placed (own_by _ _ _ _ _
    (c.open_round.ensures.number ∙ c.place-start.ensures.number) c.start_each.ensures.own)
    (own_by _ _ _ _ _ (c.start_each.ensures.number ∙ (c.open_round.ensures.number ∙ c.place-start.ensures.number))
    c.call_fails.ensures.own)

pub returns-in-Err-call_fails-clause-cells : goal.returns-in-Err-call_fails-clause-cells
returns-in-Err-call_fails-clause-cells g c = keep-then _ _ _ c.open_round.ensures.cells c.start_each.ensures.cells

pub returns-in-Err-report_of-clause-keeps : goal.returns-in-Err-report_of-clause-keeps
returns-in-Err-report_of-clause-keeps g c = (g.met.P.Port.goes_on c.args.port.now c.call_fails.new.port
    c.report_of.new.port (g.met.P.Port.goes_on c.args.port.now c.start_each.new.port c.call_fails.new.port
    (g.met.P.Port.goes_on c.args.port.now c.open_round.new.port c.start_each.new.port
    (g.met.P.Port.goes_on c.args.port.now c.place-start.new.self c.open_round.new.port c.place-start.ensures.keeps
    c.open_round.ensures.keeps) c.start_each.ensures.keeps) c.call_fails.ensures.keeps) c.report_of.ensures.keeps)

pub returns-in-Err-report_of-clause-own : goal.returns-in-Err-report_of-clause-own
returns-in-Err-report_of-clause-own g c = items_look _ _ _ _ _ _
    (note_items _ c.args.now _ _ _ _ _ _ _ _ c.in-Ok-open_round.opening c.place-start.ensures.looks
    (first_by _ _ _ _ _ _ _ c.place-start.ensures.number c.in-Ok-open_round.ensures.own)
    c.in-Ok-open_round.ensures.opened.placed (own_by _ _ _ _ _
    (c.open_round.ensures.number ∙ c.place-start.ensures.number) c.start_each.ensures.own)
    (own_by _ _ _ _ _ (c.start_each.ensures.number ∙ (c.open_round.ensures.number ∙ c.place-start.ensures.number))
    c.call_fails.ensures.own)) c.report_of.ensures.looks

pub returns-in-Err-report_of-clause-cells : goal.returns-in-Err-report_of-clause-cells
returns-in-Err-report_of-clause-cells g c = keep-then _ _ _ c.open_round.ensures.cells c.start_each.ensures.cells

pub returns-clause-keeps : goal.returns-clause-keeps
returns-clause-keeps g c = (g.met.P.Port.goes_on c.args.port.now c.call_fails.new.port c.report_of.new.port
    (g.met.P.Port.goes_on c.args.port.now c.start_each.new.port c.call_fails.new.port
    (g.met.P.Port.goes_on c.args.port.now c.open_round.new.port c.start_each.new.port
    (g.met.P.Port.goes_on c.args.port.now c.place-start.new.self c.open_round.new.port c.place-start.ensures.keeps
    c.open_round.ensures.keeps) c.start_each.ensures.keeps) c.call_fails.ensures.keeps) c.report_of.ensures.keeps)

pub returns-clause-own : goal.returns-clause-own
returns-clause-own g c = items_look _ _ _ _ _ _ (note_items _ c.args.now _ _ _ _ _ _ _ _ c.in-Ok-open_round.opening
    c.place-start.ensures.looks (first_by _ _ _ _ _ _ _ c.place-start.ensures.number c.in-Ok-open_round.ensures.own)
    c.in-Ok-open_round.ensures.opened.placed (own_by _ _ _ _ _
    (c.open_round.ensures.number ∙ c.place-start.ensures.number) c.start_each.ensures.own)
    (own_by _ _ _ _ _ (c.start_each.ensures.number ∙ (c.open_round.ensures.number ∙ c.place-start.ensures.number))
    c.call_fails.ensures.own)) c.report_of.ensures.looks

pub returns-clause-cells : goal.returns-clause-cells
returns-clause-cells g c = keep-then _ _ _ c.open_round.ensures.cells c.start_each.ensures.cells

pub returns-clause-account : goal.returns-clause-account
returns-clause-account g c = record {
  first = g.P.Port.view c.place-start.new.self;
  looks = c.place-start.ensures.looks;
  opened = course (g.P.Port.view c.open_round.new.port) c.open_round.new.tally c.open_round.new.cells
      (wire_at (g.W.Wire.ends c.open_round.new.wire) (g.W.Wire.losses c.open_round.new.wire));
  opening_is = c.in-Ok-open_round.opening;
  opens = opens_by _ _ _ _ _ _ _ _ _ c.place-start.ensures.number c.new-tally.ensures c.in-Ok-open_round.ensures.opened;
  served = course (g.P.Port.view c.start_each.new.port) c.start_each.new.tally c.start_each.new.cells
      (wire_at (g.W.Wire.ends c.start_each.new.wire) (g.W.Wire.losses c.start_each.new.wire));
  serves = each_by (λ n. ServesOne n c.args.now c.in-Ok-open_round.opening.places) _ _ _ _ _
      (c.open_round.ensures.number ∙ c.place-start.ensures.number) c.in-Ok-start_each.ensures.serves;
  noted = calling (g.P.Port.view c.call_fails.new.port) c.call_fails.new.tally;
  notes = each_by IsNoted _ _ _ _ _ (c.start_each.ensures.number ∙
      (c.open_round.ensures.number ∙ c.place-start.ensures.number)) c.in-Ok-call_fails.ensures.noted;
  looks_last = c.report_of.ensures.looks;
  reps_are = refl;
  wire_is = refl;
  reports = report_from _ _ _ _ _ _ _ _ c.place-start.ensures.place c.in-Ok-report_of.ensures.report;
}

pub returns-in-Err-clause-cells : goal.returns-in-Err-clause-cells
returns-in-Err-clause-cells g c = keep-same _

pub returns-in-Err-clause-cause : goal.returns-in-Err-clause-cause
returns-in-Err-clause-cause g c = caused_by_want _ _ _

pub returns-in-Err-open_round-clause-cause : goal.returns-in-Err-open_round-clause-cause
returns-in-Err-open_round-clause-cause g c =
    caused_before _ _ _ _ _ _ c.place-start.ensures.number
    (later_looks _ _ c.place-start.ensures.looks) c.in-Err-open_round.ensures.cause

pub returns-in-Err-start_each-clause-cause : goal.returns-in-Err-start_each-clause-cause
returns-in-Err-start_each-clause-cause g c =
    caused_before _ _ _ _ _ _ (c.open_round.ensures.number ∙ c.place-start.ensures.number)
    (later_then _ _ _ (later_looks _ _ c.place-start.ensures.looks) c.open_round.ensures.own.items.asked.later)
    c.in-Err-start_each.ensures.cause

pub returns-in-Err-call_fails-clause-cause : goal.returns-in-Err-call_fails-clause-cause
returns-in-Err-call_fails-clause-cause g c =
    caused_before _ _ _ _ _ _ (c.start_each.ensures.number ∙
    (c.open_round.ensures.number ∙ c.place-start.ensures.number))
    (later_then _ _ _ (later_then _ _ _ (later_looks _ _ c.place-start.ensures.looks)
    c.open_round.ensures.own.items.asked.later)
    c.start_each.ensures.own.later)
    c.in-Err-call_fails.ensures.cause

pub returns-in-Err-report_of-clause-cause : goal.returns-in-Err-report_of-clause-cause
returns-in-Err-report_of-clause-cause g c = caused_by_want _ _ _

pub returns-in-Err-clause-sure : goal.returns-in-Err-clause-sure
returns-in-Err-clause-sure g c = sure_looks _ _ c.place-start.ensures.looks

pub returns-in-Err-open_round-clause-sure : goal.returns-in-Err-open_round-clause-sure
returns-in-Err-open_round-clause-sure g c =
    sure_fault c.in-Err-open_round.fault _ _ _ (sure_looks _ _ c.place-start.ensures.looks)
    c.in-Err-open_round.ensures.sure

pub returns-in-Err-start_each-clause-sure : goal.returns-in-Err-start_each-clause-sure
returns-in-Err-start_each-clause-sure g c =
    sure_fault c.in-Err-start_each.fault _ _ _
    (sure_then _ _ _ (sure_looks _ _ c.place-start.ensures.looks) c.in-Ok-open_round.ensures.sure)
    c.in-Err-start_each.ensures.sure

pub returns-in-Err-call_fails-clause-sure : goal.returns-in-Err-call_fails-clause-sure
returns-in-Err-call_fails-clause-sure g c =
    sure_fault c.in-Err-call_fails.fault _ _ _
    (sure_then _ _ _ (sure_then _ _ _ (sure_looks _ _ c.place-start.ensures.looks) c.in-Ok-open_round.ensures.sure)
    c.in-Ok-start_each.ensures.sure)
    c.in-Err-call_fails.ensures.sure

pub returns-in-Err-report_of-clause-sure : goal.returns-in-Err-report_of-clause-sure
returns-in-Err-report_of-clause-sure g c =
    sure_then _ _ _
    (sure_then _ _ _ (sure_then _ _ _ (sure_then _ _ _ (sure_looks _ _ c.place-start.ensures.looks) c.in-Ok-open_round.ensures.sure)
    c.in-Ok-start_each.ensures.sure)
    c.in-Ok-call_fails.ensures.sure)
    (sure_looks _ _ c.report_of.ensures.looks)

pub returns-clause-sure : goal.returns-clause-sure
returns-clause-sure g c =
    sure_then _ _ _
    (sure_then _ _ _ (sure_then _ _ _ (sure_then _ _ _ (sure_looks _ _ c.place-start.ensures.looks) c.in-Ok-open_round.ensures.sure)
    c.in-Ok-start_each.ensures.sure)
    c.in-Ok-call_fails.ensures.sure)
    (sure_looks _ _ c.report_of.ensures.looks)
