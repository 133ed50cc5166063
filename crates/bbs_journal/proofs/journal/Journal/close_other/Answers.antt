use Rattle.std.proofs.Common.{◌≡◌}
use Rattle.bbs_journal.specs.declared.waiting.Waiting.TheVariants.{Nothing}
use Rattle.bbs_journal.proofs.Keeping.{waiting_inside}
use Rattle.bbs_journal.proofs.Sides.{kept_shut}
use Rattle.bbs_journal.proofs.journal.Journal.close_other.Goals as goal

pub invariant_of-self : goal.invariant_of-self
invariant_of-self g c =
    let calm : c.self.inside.waiting ≡ Nothing = waiting_inside _ _ _ c.self.view_is c.requires.mended in (
      c.self.invariant.0,
      rw calm (kept_shut _ _ _ _ _ _ _ _ (rw (calm, c.in-Written.is) at c.self.invariant.1)),
      c.self.invariant.2,
    )
