use Rattle.std.proofs.Common.{◌≡◌, ◌*◌, ◌≤◌, take}
use Rattle.std.specs.List.{sum_by}
use Rattle.site_answers.specs.Counting.{count_on}
use Rattle.site_answers.proofs.cell_counts.count_all.Given as goal

abbrev pub invariant-loop-answer : goal.invariant-loop-answer
invariant-loop-answer l = record {
  so_far : l.count ≡ sum_by (count_on l.counted) (take l.answer-index l.cells);
  small : l.count ≤ 4294967295 * l.answer-index;
}
