use Rattle.std.proofs.Common.{◌≡◌, ◌<◌, List, length, get_or, subst, refl, ◌∙◌}
use Rattle.cell_records.specs.declared.answer.Answer.{Answer}
use Rattle.converge_round.specs.Phases.{ServesOne, IsClaimFor}
use Rattle.converge_round.proofs.Eachs.{each-more-by}
use Rattle.converge_round.proofs.Owns.{own_none, own_more}
use Rattle.converge_round.proofs.RepLaws.{keep-same, keep-then, index-kept}
use Rattle.converge_round.proofs.StartLaws.{claim_for_one}
use Rattle.converge_round.proofs.FaultLaws.{caused_by_want, caused_before}
use Rattle.converge_round.proofs.Sure.{sure_none, sure_then, sure_fault}
use Rattle.converge_round.proofs.converging.start_each.Goals as goal

pub loop-answer-init : goal.loop-answer-init
loop-answer-init g c = record {
  index = c.requires.index;
  keeps = g.met.P.Port.same c.args.port.now;
  number = refl;
  own = own_none _ _ _;
  sure = sure_none _;
  cells = keep-same c.args.cells.now;
  serves = refl;
}

pub loop-answer-preserved : goal.loop-answer-preserved
loop-answer-preserved g c =
    let i = c.loop-answer.invariant in
    let p = c.in-Ok-start_on.ensures in
    let places = c.args.places.now in
    let k = c.loop-answer.answer-index in
    let item = c.answer-item.result in
    let within : k < length places.roomy = subst (λ (xs : List Answer). k < length xs) c.items-answer-items.ensures
    c.loop-answer-test.true in
    let is : item ≡ get_or places.roomy k item = subst (λ (xs : List Answer). item ≡ get_or xs k item)
    c.items-answer-items.ensures c.answer-item.is in
    record {
      index = index-kept _ _ c.args.index.now p.cells i.index;
      keeps = g.met.P.Port.goes_on c.args.port.now c.loop-answer.port c.start_on.new.port i.keeps p.keeps;
      number = p.number ∙ i.number;
      own = own_more _ _ (IsClaimFor c.args.now places places.roomy) _ _ _ _ i.number
          (claim_for_one c.args.now places k item within is) i.own p.own;
      sure = sure_then _ _ _ i.sure p.sure;
      cells = keep-then _ _ _ i.cells p.cells;
      serves = each-more-by (λ by. ServesOne by c.args.now places) _ _ places.roomy k item _ _ _ i.number within is
          i.serves p.serves;
    }

pub returns-in-Err-clause-own : goal.returns-in-Err-clause-own
returns-in-Err-clause-own g c = own_none _ _ _

pub returns-in-Err-start_on-clause-own : goal.returns-in-Err-start_on-clause-own
returns-in-Err-start_on-clause-own g c =
    let i = c.loop-answer.invariant in
    let places = c.args.places.now in
    let k = c.loop-answer.answer-index in
    let item = c.answer-item.result in
    let within : k < length places.roomy = subst (λ (xs : List Answer). k < length xs) c.items-answer-items.ensures
    c.loop-answer-test.true in
    let is : item ≡ get_or places.roomy k item = subst (λ (xs : List Answer). item ≡ get_or xs k item)
    c.items-answer-items.ensures c.answer-item.is in
    own_more _ _ (IsClaimFor c.args.now places places.roomy) _ _ _ _ i.number
    (claim_for_one c.args.now places k item within is) i.own c.in-Err-start_on.ensures.own

pub returns-in-Err-start_on-clause-cells : goal.returns-in-Err-start_on-clause-cells
returns-in-Err-start_on-clause-cells g c = keep-then _ _ _ c.loop-answer.invariant.cells c.in-Err-start_on.ensures.cells

pub returns-in-Err-clause-cells : goal.returns-in-Err-clause-cells
returns-in-Err-clause-cells g c = keep-same _

pub returns-in-Err-clause-cause : goal.returns-in-Err-clause-cause
returns-in-Err-clause-cause g c = caused_by_want _ _ _

pub returns-in-Err-start_on-clause-cause : goal.returns-in-Err-start_on-clause-cause
returns-in-Err-start_on-clause-cause g c =
    let i = c.loop-answer.invariant in
    caused_before _ _ _ _ _ _ i.number i.own.later c.in-Err-start_on.ensures.cause

pub returns-in-Err-clause-sure : goal.returns-in-Err-clause-sure
returns-in-Err-clause-sure g c = sure_none _

pub returns-in-Err-start_on-clause-sure : goal.returns-in-Err-start_on-clause-sure
returns-in-Err-start_on-clause-sure g c =
    sure_fault c.in-Err-start_on.fault _ _ _ c.loop-answer.invariant.sure c.in-Err-start_on.ensures.sure
