use Rattle.std.proofs.Common.{subst, sym}
use Rattle.what_if.specs.Sites.{IsSite}
use Rattle.cell_drains.specs.Steps.{IsLevel}
use Rattle.cell_drains.proofs.Leveling.{IsLevel-levelled, IsSite-levelled}
use Rattle.cell_drains.proofs.levels.levelled.Goals as goal

pub levelled_site-requires : goal.levelled_site-requires
levelled_site-requires c = c.requires.cells.each

pub returns-clause-sound : goal.returns-clause-sound
returns-clause-sound c = subst IsSite (sym c.in_ok-made.ensures) (IsSite-levelled c.args.site.now c.requires)

pub returns-clause-level : goal.returns-clause-level
returns-clause-level c = subst IsLevel (sym c.in_ok-made.ensures) (IsLevel-levelled c.args.site.now c.requires)
