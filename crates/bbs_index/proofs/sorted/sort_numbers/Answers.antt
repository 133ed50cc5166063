use Rattle.std.proofs.Common.{◌≡◌, ◌∙◌, true, slice_get, is_ok, sym, rules}
use Rattle.std.specs.declared.result.Result.{Result}
use Rattle.std.specs.declared.result.Result.TheVariants.{Ok, Err}
use Rattle.std.specs.Result.{OnOk}
use Rattle.std.specs.Cmp.Lexicographic.{options_total}
use Rattle.std.specs.Option.{option_cmp}
use Rattle.std.specs.Ordering.{is_lt}
use Rattle.std.proofs.lemmas.Fn.{always_returns_same}
use Rattle.std.proofs.lemmas.List.MinMax.{ranks_by}
use Rattle.bbs_index.proofs.sorted.sort_numbers.Goals as goal

on_ok : {E P : Type 0} (r : Result (Unit {0}) E) → is_ok r ≡ true → OnOk r P → P
on_ok (Ok done) is p = p
on_ok (Err fault) is p = cc

pub returns-then-is_ok-clause-sorted : goal.returns-then-is_ok-clause-sorted
returns-then-is_ok-clause-sorted g c =
    on_ok c.sort_by.result (sym c.is_ok.ensures.value ∙ c.if-is_ok.true) c.sort_by.ensures.sorted
    (λ m n. is_lt (option_cmp g.X.Key.Ord.cmp (slice_get c.args.keys.now m) (slice_get c.args.keys.now n)))
    (ranks_by (options_total g.met.X.Rowed.ordered.total) (slice_get c.args.keys.now))
    (always_returns_same _ _ _ (λ a r f k. search rules))

pub returns-clause-sorted : goal.returns-clause-sorted
returns-clause-sorted g c =
    c.sort_unstable_by.ensures.sorted (λ m n. is_lt (option_cmp g.X.Key.Ord.cmp (slice_get c.args.keys.now m)
    (slice_get c.args.keys.now n)))
    (ranks_by (options_total g.met.X.Rowed.ordered.total) (slice_get c.args.keys.now))
    (always_returns_same _ _ _ (λ a r f k. search rules))
