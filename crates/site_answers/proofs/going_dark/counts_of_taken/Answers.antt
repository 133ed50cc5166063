use Rattle.std.proofs.Common.{ap, ◌∙◌}
use Rattle.site_answers.specs.Losses.{times}
use Rattle.site_answers.proofs.going_dark.counts_of_taken.Goals as goal

pub returns : goal.returns
returns c = record {
  displaced = λ process.
      c.in_ok-times_displaced.ensures process
      ∙ ap (times process) (c.deref.ensures.value ∙ c.in_ok-displaced.ensures);
  taken = λ process.
      c.in_ok-times_taken.ensures process ∙ ap (times process) (c.deref-2.ensures.value ∙ c.in_ok-all.ensures);
}
