-- The whole list is a part that begins at 0.
use Rattle.std.proofs.Common.{◌+◌, get_or, refl, subst, arith}
use Rattle.std.specs.Fork.{ChangesAt}
use Rattle.busy_threads.proofs.forks.for_each_busy.Goals as goal

pub returns-then-not-is_empty : goal.returns-then-not-is_empty
returns-then-not-is_empty g c i d lt = (
  refl,
  subst (λ n. ChangesAt g.F.Fn c.args.f.now n (get_or c.args.all.now i d) (get_or c.each_from.new.part i d)) {x = 0 + i}
      (omega arith) (c.each_from.ensures.each i d lt),
)
