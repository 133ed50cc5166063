use Rattle.std.proofs.Common.{◌≡◌, ◌+◌, drop}
use Rattle.bbs_journal.specs.Reading.{payloads_of, bytes_of}
use Rattle.locket.specs.Lives.{unused, IsCounted}
use Rattle.locket.specs.Opening.{followed}
use Rattle.locket.proofs.following.follow.Given as goal

abbrev pub invariant-loop-frame : goal.invariant-loop-frame
invariant-loop-frame l = record {
  counted : IsCounted l.state;
  place : l.at + bytes_of (payloads_of (drop l.frame-index l.frames)) ≡ l.start + bytes_of (payloads_of l.frames);
  so_far : followed l.area l.broken unused l.start (payloads_of l.frames)
      ≡ followed l.area l.broken l.state l.at (payloads_of (drop l.frame-index l.frames));
}
