use Rattle.std.proofs.Common.{◌≡◌, true, false}
use Rattle.bbs_journal.specs.declared.other_gate.OtherGate.TheVariants.{Shut}
use Rattle.bbs_journal.specs.declared.waiting.Waiting.TheVariants.{Nothing}
use Rattle.bbs_journal.proofs.Keeping.{waiting_inside, gate_inside}
use Rattle.bbs_journal.proofs.Sides.{writes, shut_there, kept_written, kept_unwritten}
use Rattle.bbs_journal.proofs.journal.Journal.write_other.Goals as goal

pub write_area-requires-clause-shut : goal.write_area-requires-clause-shut
write_area-requires-clause-shut g c =
    let calm : c.self.inside.waiting ≡ Nothing = waiting_inside _ _ _ c.self.view_is c.requires.can.calm.mended in
    let shut : c.self.inside.gate ≡ Shut = gate_inside _ _ _ c.self.view_is c.requires.can.shut in
    rw c.other.ensures (shut_there _ _ _ _ _ _ _ (rw (calm, shut) at c.self.invariant.1))

pub invariant_of-self : goal.invariant_of-self
invariant_of-self g c =
    let calm : c.self.inside.waiting ≡ Nothing = waiting_inside _ _ _ c.self.view_is c.requires.can.calm.mended in
    let shut : c.self.inside.gate ≡ Shut = gate_inside _ _ _ c.self.view_is c.requires.can.shut in (
      c.self.invariant.0,
      rw (calm, shut) (kept_unwritten _ _ _ _ _ _ _ _ c.args.head.now
          (writes _ _ _ c.self.inside.version _ c.self.inside.end c.self.inside.frames c.self.inside.broken false _ _
          c.new_header-header.ensures (rw c.other.ensures at c.in_err-write_area.ensures.does))
          (rw (calm, shut) at c.self.invariant.1)),
      c.self.invariant.2,
    )

pub invariant_of-self-2 : goal.invariant_of-self-2
invariant_of-self-2 g c =
    let calm : c.self.inside.waiting ≡ Nothing = waiting_inside _ _ _ c.self.view_is c.requires.can.calm.mended in
    let shut : c.self.inside.gate ≡ Shut = gate_inside _ _ _ c.self.view_is c.requires.can.shut in (
      c.self.invariant.0,
      rw calm (kept_written _ _ _ _ _ _ _ _ c.args.head.now
          (writes _ _ _ c.self.inside.version _ c.self.inside.end c.self.inside.frames c.self.inside.broken true _ _
          c.new_header-header.ensures (rw c.other.ensures at c.in_ok-write_area.ensures.does))
          (rw (calm, shut) at c.self.invariant.1)),
      c.self.invariant.2,
    )

pub returns-clause-does : goal.returns-clause-does
returns-clause-does g c =
    rw (← c.self.view_is)
    (writes _ _ _ c.self.inside.version _ c.self.inside.end c.self.inside.frames c.self.inside.broken true _ _
    c.new_header-header.ensures (rw c.other.ensures at c.in_ok-write_area.ensures.does))
