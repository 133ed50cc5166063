use Rattle.std.proofs.Common.{◌≡◌, ◌∙◌, length, refl, sym, subst, arith}
use Rattle.bbs_index.specs.Order.{AreBelow}
use Rattle.bbs_index.proofs.Ordering.{AreBelow-more}
use Rattle.bbs_index.proofs.order.push_lacking.Goals as goal

pub loop-number-init : goal.loop-number-init
loop-number-init c =
    let count : length c.args.numbers.now.items ≡ c.len-number.result =
    omega (arith, c.args.numbers.now.ok.0, c.len-number.ensures) in
    record {
      within = omega (arith, c.requires.few, c.len-number.ensures);
      order = subst (λ m. AreBelow m c.args.numbers.now.items) count c.requires.order;
      count = sym c.len-number.ensures;
      capacity = refl;
    }

pub loop-number-preserved : goal.loop-number-preserved
loop-number-preserved c = record {
  within = omega (arith, c.loop-number-test.true);
  order = AreBelow-more c.loop-number.number c.loop-number.numbers.items c.push_reserved.new.self.items
      c.loop-number.invariant.order c.push_reserved.ensures.items;
  count = omega (arith, c.push_reserved.ensures.len, c.loop-number.invariant.count);
  capacity = c.push_reserved.ensures.capacity ∙ c.loop-number.invariant.capacity;
}

pub returns-clause-order : goal.returns-clause-order
returns-clause-order c =
    let all : c.loop-number.number ≡ c.args.count = omega
    (arith, c.loop-number-test.false, c.loop-number.invariant.within) in
    subst (λ m. AreBelow m c.loop-number.numbers.items) all c.loop-number.invariant.order
