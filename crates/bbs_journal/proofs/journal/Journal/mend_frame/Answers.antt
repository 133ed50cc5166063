use Rattle.std.proofs.Common.{◌≡◌, true, false, is_ok, rules, arith}
use Rattle.bbs_journal.specs.declared.waiting.Waiting.TheVariants.{Frame}
use Rattle.bbs_journal.proofs.Keeping.{room, kept_mended, kept_unmended, broken_inside, waiting_inside}
use Rattle.bbs_journal.proofs.Turning.{mended}
use Rattle.bbs_journal.proofs.journal.Journal.mend_frame.Goals as goal

pub write_synced-requires : goal.write_synced-requires
write_synced-requires g c p is =
    let whole : c.self.inside.broken ≡ false = broken_inside _ _ _ c.self.view_is c.requires.whole in
    let within = room _ _ _ _ _ _ _ _ _ whole c.self.invariant.1 p is in omega arith

pub invariant_of-self : goal.invariant_of-self
invariant_of-self g c =
    let whole : c.self.inside.broken ≡ false = broken_inside _ _ _ c.self.view_is c.requires.whole in
    let waits : c.self.inside.waiting ≡ Frame = waiting_inside _ _ _ c.self.view_is c.requires.waits in (
      c.self.invariant.0,
      rw waits (kept_unmended _ _ _ _ _ _ _ _ _ whole
          (mended _ _ _ false _ c.in_err-write_synced.ensures.does) (rw waits at c.self.invariant.1)),
      c.self.invariant.2,
    )

pub returns-in_err-write_synced-clause-does : goal.returns-in_err-write_synced-clause-does
returns-in_err-write_synced-clause-does g c =
    let failed : is_ok c.from_residual.result ≡ false = search rules in
    rw (← c.self.view_is, failed) (mended _ _ _ false _ c.in_err-write_synced.ensures.does)

pub invariant_of-self-2 : goal.invariant_of-self-2
invariant_of-self-2 g c =
    let whole : c.self.inside.broken ≡ false = broken_inside _ _ _ c.self.view_is c.requires.whole in
    let waits : c.self.inside.waiting ≡ Frame = waiting_inside _ _ _ c.self.view_is c.requires.waits in (
      c.self.invariant.0,
      kept_mended _ _ _ _ _ _ _ _ _ whole (mended _ _ _ true _ c.in_ok-write_synced.ensures.does)
          (rw waits at c.self.invariant.1),
      c.self.invariant.2,
    )

pub returns-clause-does : goal.returns-clause-does
returns-clause-does g c = rw (← c.self.view_is) (mended _ _ _ true _ c.in_ok-write_synced.ensures.does)
