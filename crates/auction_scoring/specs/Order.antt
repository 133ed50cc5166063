-- The order of scores.
use Rattle.std.specs.Prelude.{Bool}
use Rattle.std.specs.Ordering.{nat_cmp, on, then_cmp, is_lt}
use Rattle.std.specs.declared.cmp.Ordering.{Ordering}
use Rattle.diego_names.specs.Order.{name_order}
use Rattle.auction_scoring.specs.declared.scores.Score.{Score}

-- by the containers in the zone, then by those on the cell, then by load, then by name
abbrev pub score_order : Score → Score → Ordering
score_order =
    then_cmp (on (λ s. s.in_zone) nat_cmp)
    (then_cmp (on (λ s. s.on_cell) nat_cmp)
    (then_cmp (on (λ s. s.load) nat_cmp) (on (λ s. s.cell) name_order)))

-- whether the first score is the better one: the lower
abbrev pub is_better : Score → Score → Bool
is_better a b = is_lt (score_order a b)
