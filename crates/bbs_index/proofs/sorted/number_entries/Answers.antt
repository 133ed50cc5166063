use Rattle.std.proofs.Common.{◌≡◌, ◌∙◌, ◌<◌, length, subst, arith, take_all}
use Rattle.std.proofs.lemmas.List.{length-map}
use Rattle.indexmap.specs.IndexMap.{values}
use Rattle.bbs_index.specs.Shelf.{AreNumbered}
use Rattle.bbs_index.proofs.Numbering.{AreNumbered-more}
use Rattle.bbs_index.proofs.sorted.number_entries.Given.{Over}
use Rattle.bbs_index.proofs.sorted.number_entries.Goals as goal

number_within : (g : Over) → (c : goal.After-push_reserved g) → c.loop-number.number < length (values c.args.map.now)
number_within g c = omega (
  arith,
  c.loop-number-test.true,
  c.loop-number.invariant.ends,
  length-map c.args.map.now.entries (λ e. e.1),
)

pub loop-number-preserved : goal.loop-number-preserved
loop-number-preserved g c = record {
  within = omega (arith, c.loop-number-test.true);
  ends = c.loop-number.invariant.ends;
  numbers = AreNumbered-more (values c.args.map.now) c.loop-number.numbers.items c.push_reserved.new.self.items
      c.loop-number.number c.loop-number.invariant.numbers (number_within g c) c.push_reserved.ensures.items;
  count = omega (arith, c.push_reserved.ensures.len, c.loop-number.invariant.count);
  capacity = c.push_reserved.ensures.capacity ∙ c.loop-number.invariant.capacity;
}

pub returns-clause-numbers : goal.returns-clause-numbers
returns-clause-numbers g c =
    let rows = values c.args.map.now in
    subst (λ xs. AreNumbered rows c.loop-number.numbers.items xs)
    (take_all c.loop-number.number rows (omega (
      arith,
      c.loop-number-test.false,
      c.loop-number.invariant.ends,
      length-map c.args.map.now.entries (λ e. e.1),
    ))) c.loop-number.invariant.numbers
