use Rattle.std.proofs.Common.{◌≡◌, false, subst}
use Rattle.std.specs.Option.{ForSome}
use Rattle.bbs_board.specs.KeptIn.{IsKeptIn}
use Rattle.bbs_board.specs.View.{View}
use Rattle.bbs_board.specs.declared.kept_in.KeptIn.{KeptIn}
use Rattle.bbs_board.proofs.Storing.{kept_where}
use Rattle.bbs_board.proofs.board.Board.kept_in.Goals as goal

pub returns-clause-place : goal.returns-clause-place
returns-clause-place g c =
    let b = c.self.inside in
    let place : KeptIn = record { area = c.area.result; generation = c.generation.result; frames = c.frames.result } in
    subst (λ (v : View g.row.D.Denot). v.waits ≡ false → ForSome (g.D.Disk.told v.disk) (IsKeptIn place)) c.self.view_is
    (λ calm. kept_where (g.D.Disk.told b.journal.disk) b.base.value.rows b.history.log b.history.marks b.since
    b.journal.area b.journal.version b.journal.generation b.journal.end b.journal.frames b.journal.waiting
    b.journal.gate c.self.invariant.holds calm place
    c.area.ensures c.generation.ensures c.frames.ensures)
