use Rattle.std.proofs.Common.{◌∙◌}
use Rattle.std.proofs.lemmas.List.Filters.{dedup_is}
use Rattle.route_emitter.proofs.Once.{table-from_dedup}
use Rattle.route_emitter.proofs.sorted.put_in_order.Goals as goal

pub returns-clause-items : goal.returns-clause-items
returns-clause-items g c =
    dedup_is _ _ _ c.dedup.ensures.filtered
    ∙ table-from_dedup g.K.Ord.cmp _ c.requires g.met.K.Ord.matches_eq c.args.items.now.items
    c.sort_unstable.new.self.items c.sort_unstable.ensures.permutation c.sort_unstable.ensures.sorted
