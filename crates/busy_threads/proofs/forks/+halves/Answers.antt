-- What each half does is what the whole does.
use Rattle.std.proofs.Common.{◌/◌, length, get_or, ap, refl, subst, ◌∙◌, sym, arith}
use Rattle.std.proofs.lemmas.List.{get_or_default}
use Rattle.std.specs.Fork.{AcceptsAt, ChangesAt}
use Rattle.busy_threads.proofs.Halves.{back_of, by_both, by_one}
use Rattle.busy_threads.proofs.forks.+halves.Goals as goal

pub each_from-returns-then-count-eq1 : goal.each_from-returns-then-count-eq1
each_from-returns-then-count-eq1 g t c =
    by_one (ChangesAt g.F.Fn c.args.f.now) c.args.base c.args.part.now c.at_one.new.it
    c.if-count-eq1.true
    (λ d. subst (λ x. ChangesAt g.F.Fn c.args.f.now c.args.base x c.at_one.new.it)
    (get_or_default c.args.part.now 0 _ d c.requires.some) c.at_one.ensures)

pub each_from-both_at_once-requires-clause-back : goal.each_from-both_at_once-requires-clause-back
each_from-both_at_once-requires-clause-back g t c κs within =
    let cut = c.split_at_mut-front in
    back_of (AcceptsAt g.F.Fn c.args.f.now) c.args.base (length c.args.part.now / 2) _ _ _ _
    cut.ensures.value cut.ensures.front_len refl (omega (arith, c.requires.some)) c.requires

pub each_from-each_from-requires-else-is_split-after_bounds :
    goal.each_from-each_from-requires-else-is_split-after_bounds
each_from-each_from-requires-else-is_split-after_bounds g t c κs within =
    let cut = c.split_at_mut-front in
    back_of (AcceptsAt g.F.Fn c.args.f.now) c.args.base (length c.args.part.now / 2) _ _ _ _
    cut.ensures.value cut.ensures.front_len refl (omega (arith, c.requires.some)) c.requires

pub each_from-returns-then-is_split : goal.each_from-returns-then-is_split
each_from-returns-then-is_split g t c =
    let cut = c.split_at_mut-front in
    by_both (ChangesAt g.F.Fn c.args.f.now) c.args.base (length c.args.part.now / 2) _ _ _ _ _ _
    cut.ensures.value cut.ensures.front_len refl c.both_at_once.ensures.front c.both_at_once.ensures.back

pub each_from-returns-else-is_split : goal.each_from-returns-else-is_split
each_from-returns-else-is_split g t c =
    let cut = c.split_at_mut-front in
    by_both (ChangesAt g.F.Fn c.args.f.now) c.args.base (length c.args.part.now / 2) _ _ _ _ _ _
    cut.ensures.value cut.ensures.front_len refl c.each_from.ensures c.each_from-else-is_split.ensures
