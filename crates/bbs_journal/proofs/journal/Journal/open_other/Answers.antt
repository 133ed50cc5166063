use Rattle.std.proofs.Common.{◌≡◌, refl, inr, ◌^◌, ◌-◌, ◌<◌, true, false, is_ok, rules, arith}
use Rattle.bbs_journal.specs.Switching.{size_written}
use Rattle.bbs_journal.specs.declared.other_gate.OtherGate.TheVariants.{Written}
use Rattle.bbs_journal.specs.declared.waiting.Waiting.TheVariants.{Nothing}
use Rattle.bbs_journal.proofs.Keeping.{waiting_inside, written_inside, broken_inside, generation_inside}
use Rattle.bbs_journal.proofs.Sides.{opens, kept_opened, kept_unopened}
use Rattle.bbs_journal.proofs.journal.Journal.open_other.Goals as goal

pub invariant_of-self : goal.invariant_of-self
invariant_of-self g c =
    let calm : c.self.inside.waiting ≡ Nothing = waiting_inside _ _ _ c.self.view_is c.requires.calm.mended in
    let written : c.self.inside.gate ≡ Written (size_written c.self.inside.gate) =
    written_inside _ _ c.self.view_is c.requires.written in (
      c.self.invariant.0,
      rw written (kept_unopened _ _ _ _ _ _ _ _ _ (opens _ _ _ c.self.inside.version _ c.self.inside.end
          c.self.inside.frames c.self.inside.broken false (rw c.other-area.ensures at
          c.in_err-write_synced.ensures.does)) (rw (calm, written) at c.self.invariant.1)),
      c.self.invariant.2,
    )

pub returns-in_err-write_synced-clause-does : goal.returns-in_err-write_synced-clause-does
returns-in_err-write_synced-clause-does g c =
    let failed : is_ok c.from_residual.result ≡ false = search rules in
    rw (← c.self.view_is, failed) (opens _ _ _ c.self.inside.version _ c.self.inside.end c.self.inside.frames
    c.self.inside.broken false (rw c.other-area.ensures at c.in_err-write_synced.ensures.does))

pub invariant_of-self-2 : goal.invariant_of-self-2
invariant_of-self-2 g c =
    let calm : c.self.inside.waiting ≡ Nothing = waiting_inside _ _ _ c.self.view_is c.requires.calm.mended in
    let whole : c.self.inside.broken ≡ false = broken_inside _ _ _ c.self.view_is c.requires.calm.whole in
    let written : c.self.inside.gate ≡ Written (size_written c.self.inside.gate) =
    written_inside _ _ c.self.view_is c.requires.written in
    let below : c.self.inside.generation < 2 ^ 64 - 1 = generation_inside _ _ c.self.view_is c.requires.generation in (
      omega (arith, c.size_written-size.ensures.small),
      rw (c.other-area.ensures, c.size_written-size.ensures.value) (kept_opened _ _ _ _ _ _ _ _ _ below whole
          (opens _ _ _ c.self.inside.version _ c.self.inside.end c.self.inside.frames c.self.inside.broken true
          (rw c.other-area.ensures at c.in_ok-write_synced.ensures.does))
          (rw (calm, written) at c.self.invariant.1)),
      inr refl,
    )

pub returns-clause-does : goal.returns-clause-does
returns-clause-does g c =
    rw (← c.self.view_is) (opens _ _ _ c.self.inside.version _ c.self.inside.end c.self.inside.frames
    c.self.inside.broken true (rw c.other-area.ensures at c.in_ok-write_synced.ensures.does))
