use Rattle.std.proofs.Common.{◌≡◌, true, false, is_ok, rules}
use Rattle.bbs_journal.specs.declared.other_gate.OtherGate.TheVariants as gates
use Rattle.bbs_journal.specs.declared.waiting.Waiting.TheVariants.{Nothing}
use Rattle.bbs_journal.proofs.Keeping.{waiting_inside, gate_inside}
use Rattle.bbs_journal.proofs.Sides.{closes, kept_closed, kept_unclosed}
use Rattle.bbs_journal.proofs.journal.Journal.close_loose.Goals as goal

pub invariant_of-self : goal.invariant_of-self
invariant_of-self g c =
    let calm : c.self.inside.waiting ≡ Nothing = waiting_inside _ _ _ c.self.view_is c.requires.calm.mended in
    let loose : c.self.inside.gate ≡ gates.Loose = gate_inside _ _ _ c.self.view_is c.requires.loose in
    let kept = rw (calm, loose) at c.self.invariant.1 in (
      c.self.invariant.0,
      rw loose (kept_unclosed _ _ _ _ _ _ _ _
          (closes _ _ _ _ _ _ _ _ false (rw c.other.ensures at c.in_err-write_synced.ensures.does) kept) kept),
      c.self.invariant.2,
    )

pub returns-in_err-write_synced-clause-does : goal.returns-in_err-write_synced-clause-does
returns-in_err-write_synced-clause-does g c =
    let failed : is_ok c.from_residual.result ≡ false = search rules in
    let calm : c.self.inside.waiting ≡ Nothing = waiting_inside _ _ _ c.self.view_is c.requires.calm.mended in
    let loose : c.self.inside.gate ≡ gates.Loose = gate_inside _ _ _ c.self.view_is c.requires.loose in
    let kept = rw (calm, loose) at c.self.invariant.1 in
    rw (← c.self.view_is, failed) (closes _ _ _ _ _ _ _ _ false
    (rw c.other.ensures at c.in_err-write_synced.ensures.does) kept)

pub invariant_of-self-2 : goal.invariant_of-self-2
invariant_of-self-2 g c =
    let calm : c.self.inside.waiting ≡ Nothing = waiting_inside _ _ _ c.self.view_is c.requires.calm.mended in
    let loose : c.self.inside.gate ≡ gates.Loose = gate_inside _ _ _ c.self.view_is c.requires.loose in
    let kept = rw (calm, loose) at c.self.invariant.1 in (
      c.self.invariant.0,
      kept_closed _ _ _ _ _ _ _ _ (closes _ _ _ _ _ _ _ _ true
          (rw c.other.ensures at c.in_ok-write_synced.ensures.does) kept) kept,
      c.self.invariant.2,
    )

pub returns-clause-does : goal.returns-clause-does
returns-clause-does g c =
    let calm : c.self.inside.waiting ≡ Nothing = waiting_inside _ _ _ c.self.view_is c.requires.calm.mended in
    let loose : c.self.inside.gate ≡ gates.Loose = gate_inside _ _ _ c.self.view_is c.requires.loose in
    let kept = rw (calm, loose) at c.self.invariant.1 in
    rw (← c.self.view_is) (closes _ _ _ _ _ _ _ _ true (rw c.other.ensures at c.in_ok-write_synced.ensures.does) kept)
