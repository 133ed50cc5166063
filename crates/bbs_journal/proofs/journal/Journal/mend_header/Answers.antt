use Rattle.std.proofs.Common.{◌≡◌, true, false, is_ok, rules}
use Rattle.bbs_journal.specs.declared.waiting.Waiting.TheVariants.{Header}
use Rattle.bbs_journal.proofs.Keeping.{waiting_inside}
use Rattle.bbs_journal.proofs.Sides.{closes_header, kept_header_mended, kept_header_unmended}
use Rattle.bbs_journal.proofs.journal.Journal.mend_header.Goals as goal

pub invariant_of-self : goal.invariant_of-self
invariant_of-self g c =
    let waits : c.self.inside.waiting ≡ Header = waiting_inside _ _ _ c.self.view_is c.requires.waits in (
      c.self.invariant.0,
      rw waits (kept_header_unmended _ _ _ _ _ _ _ _ _
          (closes_header _ _ _ c.self.inside.version _ c.self.inside.end c.self.inside.frames c.self.inside.broken _ false
          (rw c.other.ensures at c.in_err-write_synced.ensures.does)) (rw waits at c.self.invariant.1)),
      c.self.invariant.2,
    )

pub returns-in_err-write_synced-clause-does : goal.returns-in_err-write_synced-clause-does
returns-in_err-write_synced-clause-does g c =
    let failed : is_ok c.from_residual.result ≡ false = search rules in
    rw (← c.self.view_is, failed) (closes_header _ _ _ c.self.inside.version _ c.self.inside.end c.self.inside.frames
    c.self.inside.broken _ false (rw c.other.ensures at c.in_err-write_synced.ensures.does))

pub invariant_of-self-2 : goal.invariant_of-self-2
invariant_of-self-2 g c =
    let waits : c.self.inside.waiting ≡ Header = waiting_inside _ _ _ c.self.view_is c.requires.waits in (
      c.self.invariant.0,
      kept_header_mended _ _ _ _ _ _ _ _ _
          (closes_header _ _ _ c.self.inside.version _ c.self.inside.end c.self.inside.frames c.self.inside.broken _ true
          (rw c.other.ensures at c.in_ok-write_synced.ensures.does)) (rw waits at c.self.invariant.1),
      c.self.invariant.2,
    )

pub returns-clause-does : goal.returns-clause-does
returns-clause-does g c =
    rw (← c.self.view_is) (closes_header _ _ _ c.self.inside.version _ c.self.inside.end c.self.inside.frames
    c.self.inside.broken _ true (rw c.other.ensures at c.in_ok-write_synced.ensures.does))
