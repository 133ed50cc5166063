use Rattle.std.proofs.Common.{◌≡◌, ◌++◌, map, filter, take}
use Rattle.loss_cases.specs.Cases.{alone_case, goes_alone}
use Rattle.loss_cases.proofs.trying.try_alone.Given as goal

abbrev pub invariant-loop-cell : goal.invariant-loop-cell
invariant-loop-cell l = record {
  cases : l.cases.items ≡ l.fn.cases.items ++ map (alone_case l.question.base.site.now) (take l.cell-index l.cells);
  able : l.able.items ≡ filter (goes_alone l.question.base.site.now) (take l.cell-index l.cells);
}
