use Rattle.std.proofs.Common.{◌≡◌, subst, sym}
use Rattle.what_if.specs.Sites.{IsSite}
use Rattle.cell_drains.specs.Steps.{after_step, IsLevel}
use Rattle.cell_drains.proofs.Changing.{as_many_planned, changed_site}
use Rattle.cell_drains.proofs.NextSites.{IsLevel-after_step, IsSite-after_step}
use Rattle.cell_drains.proofs.steps.after_step.Goals as goal

pub of-requires : goal.of-requires
of-requires c = as_many_planned c.args.site.now c.args.batch.now c.args.plan.now c.requires.plan

pub returns-clause-value : goal.returns-clause-value
returns-clause-value c =
    changed_site c.args.site.now c.args.batch.now c.args.plan.now c.requires.plan c.in_ok-change.change
    c.in_ok-change.ensures
    c.in_ok-next.next c.in_ok-next.ensures

pub returns-clause-sound : goal.returns-clause-sound
returns-clause-sound c =
    let value : c.in_ok-next.next ≡ after_step c.args.site.now c.args.batch.now =
    changed_site c.args.site.now c.args.batch.now c.args.plan.now c.requires.plan c.in_ok-change.change
    c.in_ok-change.ensures c.in_ok-next.next c.in_ok-next.ensures in
    subst IsSite (sym value) (IsSite-after_step c.args.site.now c.args.batch.now c.requires.sound c.requires.level)

pub returns-clause-level : goal.returns-clause-level
returns-clause-level c =
    let value : c.in_ok-next.next ≡ after_step c.args.site.now c.args.batch.now =
    changed_site c.args.site.now c.args.batch.now c.args.plan.now c.requires.plan c.in_ok-change.change
    c.in_ok-change.ensures c.in_ok-next.next c.in_ok-next.ensures in
    subst IsLevel (sym value) (IsLevel-after_step c.args.site.now c.args.batch.now c.requires.sound c.requires.level)
