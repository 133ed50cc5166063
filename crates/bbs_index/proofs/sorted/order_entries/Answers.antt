use Rattle.std.proofs.Common.{◌≡◌, ◌∙◌, length, sym, ap}
use Rattle.std.specs.List.{range_with_len}
use Rattle.std.proofs.lemmas.List.{length-map}
use Rattle.indexmap.specs.IndexMap.{values}
use Rattle.bbs_index.proofs.Numbering.{AreNumbered-by_keys}
use Rattle.bbs_index.proofs.Ordering.{AreNumbered-range}
use Rattle.bbs_index.proofs.sorted.order_entries.Goals as goal

pub returns-clause-rows : goal.returns-clause-rows
returns-clause-rows g c =
    let entries = c.args.map.now.entries in
    let rows = values c.args.map.now in
    let keys = c.as_slice-keys.result.now in
    let are = c.as_slice-keys.ensures ∙ c.keys.ensures.rest in
    let count : length keys ≡ length rows = ap length are ∙ length-map entries (λ e. e.0) ∙ sym
    (length-map entries (λ e. e.1)) in
    AreNumbered-by_keys g.met.X.Rowed.ordered g.met.X.Key.Eq.laws g.met.X.Key.Ord.matches_eq g.X.Rowed.key entries
    c.requires.shelf c.keys.ensures.unique keys are
    (range_with_len 0 (length keys)) c.follow.new.self.numbers
    (AreNumbered-range rows (length keys) count) c.follow.ensures.order c.follow.ensures.sorted
