use Rattle.std.proofs.Common.{◌≡◌, ◌+◌, ◌^◌, ◌<◌, ◌≤◌, length}
use Rattle.dump_reader.specs.TextLines.{nonblank_from}
use Rattle.dump_reader.proofs.text_lines.next_line.Given as goal

abbrev pub invariant-loop-bytes : goal.invariant-loop-bytes
invariant-loop-bytes l = record {
  unread : nonblank_from l.number l.bytes ≡ nonblank_from l.initial.number l.initial.bytes;
  numbered : l.number + length l.bytes < 2 ^ 32;
  within : length l.bytes ≤ length l.initial.bytes;
}

abbrev pub decreases-loop-bytes : goal.decreases-loop-bytes
decreases-loop-bytes l = length l.bytes
