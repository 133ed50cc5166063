use Rattle.std.proofs.Common.{◌≡◌, ◌++◌, ◌∷◌, [], take, get_or, sym, ap, ◌∙◌, arith}
use Rattle.std.specs.Option.{unwrap_or}
use Rattle.std.proofs.lemmas.List.{length-map}
use Rattle.std.proofs.lemmas.Option.{slice_get_within}
use Rattle.indexmap.specs.IndexMap.{values}
use Rattle.bbs_index.specs.Shelf.{table_of}
use Rattle.bbs_index.proofs.Reading.{numbered_there}
use Rattle.bbs_index.proofs.sorted.fill_at.Goals as goal

pub index-requires : goal.index-requires
index-requires g c =
    let there = numbered_there (values c.args.map.now) c.args.numbers.now
    (table_of g.X.Key.Ord.cmp c.args.map.now.entries) c.loop-number.number-index c.requires.numbers
    c.loop-number-test.true in
    let inside = slice_get_within (values c.args.map.now)
    (get_or c.args.numbers.now c.loop-number.number-index 0) there.0 there.1 in
    omega (arith, inside, length-map c.args.map.now.entries (λ e. e.1))

pub loop-number-preserved : goal.loop-number-preserved
loop-number-preserved g c =
    let rows = table_of g.X.Key.Ord.cmp c.args.map.now.entries in
    let i = c.loop-number.number-index in
    let there = numbered_there (values c.args.map.now) c.args.numbers.now rows i c.requires.numbers
    c.loop-number-test.true in
    let same : there.0 ≡ c.index.result.now = ap (λ s. unwrap_or s there.0) (sym there.1 ∙ c.index.ensures) in
    record {
      rows = c.push_reserved.ensures.items ∙ ap (λ xs. xs ++ c.index.result.now ∷ []) c.loop-number.invariant.rows ∙ sym
          (there.2 ∙ ap (λ x. take i rows ++ x ∷ []) same);
      count = omega (arith, c.push_reserved.ensures.len, c.loop-number.invariant.count);
      capacity = c.push_reserved.ensures.capacity ∙ c.loop-number.invariant.capacity;
    }
