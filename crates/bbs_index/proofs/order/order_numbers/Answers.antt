use Rattle.std.proofs.Common.{arith}
use Rattle.std.proofs.lemmas.List.Sorted.{IsPermutation-trans}
use Rattle.bbs_index.proofs.Filtering.{IsOrder-filter}
use Rattle.bbs_index.proofs.order.order_numbers.Goals as goal

pub push_lacking-requires-clause-order : goal.push_lacking-requires-clause-order
push_lacking-requires-clause-order g c = (IsOrder-filter _ _ _ c.requires.order c.keep_below.ensures.items).0

pub push_lacking-requires-clause-few : goal.push_lacking-requires-clause-few
push_lacking-requires-clause-few g c = omega (
  arith,
  c.keep_below.new.numbers.ok.0,
  (IsOrder-filter _ _ _ c.requires.order c.keep_below.ensures.items).1,
)

pub returns-clause-order : goal.returns-clause-order
returns-clause-order g c = IsPermutation-trans _ c.push_lacking.new.numbers.items c.sort_numbers.new.numbers.items
    c.push_lacking.ensures.order c.sort_numbers.ensures.permutation
