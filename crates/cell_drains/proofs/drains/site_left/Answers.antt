use Rattle.std.proofs.Common.{sym, ap, ◌∙◌}
use Rattle.what_if.specs.Plans.{planned}
use Rattle.cell_drains.specs.Steps.{after_step}
use Rattle.cell_drains.proofs.drains.site_left.Goals as goal

pub after_step-requires-clause-sound : goal.after_step-requires-clause-sound
after_step-requires-clause-sound c = c.requires.ready.sound

pub after_step-requires-clause-level : goal.after_step-requires-clause-level
after_step-requires-clause-level c = c.requires.ready.level

pub after_step-requires-clause-plan : goal.after_step-requires-clause-plan
after_step-requires-clause-plan c = c.requires.plan ∙ ap (planned c.args.site.now) (sym c.items.ensures)

pub returns-clause-value : goal.returns-clause-value
returns-clause-value c = c.in_ok-next.ensures.value ∙ ap (after_step c.args.site.now) c.items.ensures

pub returns-clause-ready : goal.returns-clause-ready
returns-clause-ready c = record { sound = c.in_ok-next.ensures.sound; level = c.in_ok-next.ensures.level }
