use Rattle.std.proofs.Common.{◌≡◌, ◌+◌, drop}
use Rattle.bbs_journal.specs.Reading.{payloads_of, bytes_of}
use Rattle.bbs_model.specs.Valid.{IsValid}
use Rattle.bbs_board.specs.Opening.{followed}
use Rattle.bbs_board.proofs.following.follow.Given as goal

abbrev pub invariant-loop-frame : goal.invariant-loop-frame
invariant-loop-frame l = record {
  valid : IsValid l.index.rows;
  place : l.at + bytes_of (payloads_of (drop l.frame-index l.frames)) ≡ l.start + bytes_of (payloads_of l.frames);
  so_far : followed l.version l.area l.broken l.fn.index.rows l.start (payloads_of l.frames)
      ≡ followed l.version l.area l.broken l.index.rows l.at (payloads_of (drop l.frame-index l.frames));
}
