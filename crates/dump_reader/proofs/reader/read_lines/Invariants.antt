use Rattle.std.proofs.Common.{◌≡◌, ◌+◌, ◌^◌, ◌<◌, length}
use Rattle.dump_reader.specs.Accepted.{accepted}
use Rattle.dump_reader.specs.TextLines.{nonblank_in}
use Rattle.dump_reader.specs.Tracked.{lines_counted, IsTracked}
use Rattle.dump_reader.proofs.reader.read_lines.Given as goal

abbrev pub invariant-loop-line : goal.invariant-loop-line
invariant-loop-line l = record {
  unread : accepted l.dump (nonblank_in l.rest) ≡ accepted l.initial.dump (nonblank_in l.initial.rest);
  numbered : l.rest.number + length l.rest.bytes.now < 2 ^ 32;
  counted : lines_counted l.dump.counts + length l.rest.bytes.now < 2 ^ 32;
  tracked : IsTracked l.seen l.dump;
}

abbrev pub decreases-loop-line : goal.decreases-loop-line
decreases-loop-line l = length l.rest.bytes.now
