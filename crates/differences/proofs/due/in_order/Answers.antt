use Rattle.std.proofs.Common.{◌∙◌}
use Rattle.std.proofs.lemmas.List.Filters.{dedup_is}
use Rattle.convergence.proofs.Public.{table-from_dedup}
use Rattle.differences.proofs.due.in_order.Goals as goal

pub returns : goal.returns
returns g c =
    dedup_is _ _ _ c.dedup.ensures.filtered
    ∙ table-from_dedup g.K.Ord.cmp _ c.requires g.met.K.Ord.matches_eq c.args.keys.items c.sort_unstable.new.self.items
    c.sort_unstable.ensures.permutation c.sort_unstable.ensures.sorted
