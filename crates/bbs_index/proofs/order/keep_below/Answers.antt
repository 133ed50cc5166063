use Rattle.std.proofs.Common.{rules, ◌≤◌, length, sym, arith}
use Rattle.std.proofs.lemmas.Fn.{filter_same}
use Rattle.bbs_index.proofs.Filtering.{filter_few}
use Rattle.bbs_index.proofs.order.keep_below.Goals as goal

pub returns-then-count-len-clause-items : goal.returns-then-count-len-clause-items
returns-then-count-len-clause-items c = filter_same _ _ _ (λ x b f' k. search rules) _ _ c.retain.ensures.filtered

pub returns-else-count-len-clause-items : goal.returns-else-count-len-clause-items
returns-else-count-len-clause-items c =
    let few : length c.args.numbers.now.items ≤ c.args.count =
    omega (arith, c.if-count-len.false, c.len.ensures, c.args.numbers.now.ok.0) in
    sym (filter_few c.args.count c.args.numbers.now.items c.requires few)
