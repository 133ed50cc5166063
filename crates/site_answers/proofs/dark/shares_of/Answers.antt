use Rattle.std.proofs.Common.{ap, ◌∙◌}
use Rattle.site_answers.specs.Losses.{times}
use Rattle.site_answers.proofs.Darkness.{displaced-by_scene, held-by_holders}
use Rattle.site_answers.proofs.dark.shares_of.Goals as goal

pub returns : goal.returns
returns c =
    let scene = c.args.scene.now in
    record {
      displaced = λ process.
          c.in_ok-times_displaced.ensures process
          ∙ ap (times process) (c.deref.ensures.value ∙ c.in_ok-displaced.ensures ∙ displaced-by_scene scene
          c.requires);
      held = λ process.
          c.in_ok-times_held.ensures process
          ∙ ap (times process) (c.deref-2.ensures.value ∙ c.in_ok-held.ensures ∙ held-by_holders scene.site.now
          scene.lost.now scene.after.now c.requires.after);
    }
