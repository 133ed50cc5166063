use Rattle.std.proofs.Common.{◌∙◌, ap, ◌++◌}
use Rattle.plain_step.proofs.Scans.{put_row-pieces}
use Rattle.plain_step.proofs.tables.with.Goals as goal

pub split_at-requires : goal.split_at-requires
split_at-requires g c = c.rows_below.ensures.within

pub returns : goal.returns
returns g c = put_row-pieces g.X.Key.Ord.cmp g.X.Rowed.key c.args.row c.args.rows.now
    c.in_ok-all.all c.split_at.result.1.now c.above.result.now c.append.new.all c.key-key.result c.rows_below.result
    c.key-key.ensures c.rows_below.ensures.place (c.in_ok-all.ensures ∙ c.split_at.ensures.front)
    c.split_at.ensures.back c.above.ensures
    (c.in_ok-append.ensures ∙ ap (λ xs. xs ++ c.above.result.now) c.in_ok-push.ensures.ok)
