use Rattle.std.proofs.Common.{ℕ, List, [], map, filter, ap, ◌∙◌}
use Rattle.site_answers.specs.Losses.{is_of_many, times}
use Rattle.site_answers.proofs.Darkness.{held-by_holders}
use Rattle.site_answers.proofs.going_dark.processes_in.Goals as goal

pub returns : goal.returns
returns c =
    let site = c.args.site.now in
    record {
      many =
          c.in_ok-many.ensures
          ∙ ap (filter (is_of_many site.wanted)) (c.deref.ensures.value ∙ c.in_ok-names.ensures);
      held = λ process.
          c.in_ok-held.ensures process
          ∙ ap (times process) (c.deref-2.ensures.value ∙ c.in_ok-list.ensures
          ∙ held-by_holders site [] c.args.before.now c.requires);
    }
