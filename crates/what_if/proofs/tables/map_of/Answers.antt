use Rattle.std.proofs.Common.{◌≡◌, ◌-◌, ◌+◌, ◌<◌, ◌∙◌, ap, drop, length, sym, arith}
use Rattle.std.proofs.lemmas.List.{drop_more}
use Rattle.row_tables.specs.Table.{put_row, table}
use Rattle.what_if.proofs.Rows.{put-from_insert}
use Rattle.what_if.proofs.tables.map_of.Goals as goal

pub loop-left-preserved : goal.loop-left-preserved
loop-left-preserved g c =
    let R = g.K.Ord.cmp in
    let rows = c.args.rows.now in
    let left = c.loop-left.left in
    let row = c.index-rows-left.result in
    let one : left - 1 + 1 ≡ left = omega (arith, c.loop-left-test.true) in
    let low : left - 1 < length rows = omega (arith, c.loop-left-test.true, c.loop-left.invariant.inside) in
    record {
      inside = omega (arith, c.loop-left.invariant.inside);
      so_far =
          c.in_ok-insert.ensures.entries
          ∙ put-from_insert R c.requires row.0 row.1 c.loop-left.made.entries
          ∙ ap (put_row R (λ p. p.0) row) (c.loop-left.invariant.so_far ∙ ap (λ n. table R (λ p. p.0) (drop n rows))
          (sym one))
          ∙ ap (λ r. put_row R (λ p. p.0) r (table R (λ p. p.0) (drop (left - 1 + 1) rows))) c.index-rows-left.is
          ∙ ap (table R (λ p. p.0)) (sym (drop_more rows (left - 1) row low));
    }
