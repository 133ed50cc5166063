use Rattle.std.proofs.Common.{false, subst}
use Rattle.std.specs.Option.{ForSome}
use Rattle.bbs_board.specs.KeptIn.{StaysShort, most_after}
use Rattle.bbs_board.specs.View.{View}
use Rattle.bbs_board.proofs.Held.{sound_short}
use Rattle.bbs_board.proofs.board.Board.call.Goals as goal

pub returns-in-Same-clause-few : goal.returns-in-Same-clause-few
returns-in-Same-clause-few g c =
    let b = c.self.inside in
    subst (λ (v : View g.row.D.Denot). ForSome (g.D.Disk.told v.disk) (StaysShort (most_after false v.frames) v.frames))
    c.self.view_is
    (sound_short g.D.Disk.told g.D.Disk.fault_count b.index.rows b.base.value.rows b.history.log b.history.marks
    b.history.told b.since b.faults b.journal c.self.invariant)

pub returns-in-Refused-clause-few : goal.returns-in-Refused-clause-few
returns-in-Refused-clause-few g c =
    let b = c.self.inside in
    subst (λ (v : View g.row.D.Denot). ForSome (g.D.Disk.told v.disk) (StaysShort (most_after false v.frames) v.frames))
    c.self.view_is
    (sound_short g.D.Disk.told g.D.Disk.fault_count b.index.rows b.base.value.rows b.history.log b.history.marks
    b.history.told b.since b.faults b.journal c.self.invariant)
