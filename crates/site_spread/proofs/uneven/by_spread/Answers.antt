use Rattle.std.proofs.Common.{rules}
use Rattle.std.proofs.lemmas.List.Sorted.{answers_always}
use Rattle.site_spread.specs.Spread.{unevenness}
use Rattle.site_spread.proofs.KeyOrders.{sorted_by_spread}
use Rattle.site_spread.proofs.uneven.by_spread.Goals as goal

pub returns : goal.returns
returns c =
    sorted_by_spread c.args.list.items c.sort_unstable_by_key.new.self.items c.requires
    (c.sort_unstable_by_key.ensures.sorted unevenness (answers_always _ _ _ (λ f a r g h. search rules)))
    c.sort_unstable_by_key.ensures.permutation
