use Rattle.std.proofs.Common.{◌∙◌, slice_get, rules}
use Rattle.std.specs.Cmp.Lexicographic.{options_total}
use Rattle.std.specs.Option.{option_cmp}
use Rattle.std.specs.Ordering.{is_lt}
use Rattle.std.proofs.lemmas.Fn.{always_returns_same}
use Rattle.std.proofs.lemmas.List.MinMax.{ranks_by}
use Rattle.bbs_index.proofs.Numbering.{AreNumbered-by_keys}
use Rattle.bbs_index.proofs.sorted.fill_numbers.Goals as goal

pub returns-clause-numbers : goal.returns-clause-numbers
returns-clause-numbers g c =
    let keys = c.as_slice-keys.result.now in
    AreNumbered-by_keys g.met.X.Rowed.ordered g.met.X.Key.Eq.laws g.met.X.Key.Ord.matches_eq g.X.Rowed.key
    c.args.map.now.entries c.requires.shelf c.keys.ensures.unique keys
    (c.as_slice-keys.ensures ∙ c.keys.ensures.rest)
    c.number_entries.new.numbers.items c.sort_unstable_by.new.self.items c.number_entries.ensures.numbers
    c.sort_unstable_by.ensures.permutation
    (c.sort_unstable_by.ensures.sorted (λ m n. is_lt (option_cmp g.X.Key.Ord.cmp (slice_get keys m) (slice_get keys n)))
    (ranks_by (options_total g.met.X.Rowed.ordered.total) (slice_get keys))
    (always_returns_same _ _ _ (λ a r f k. search rules)))
