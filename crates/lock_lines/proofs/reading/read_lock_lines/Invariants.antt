use Rattle.std.proofs.Common.{◌≡◌, ◌+◌, ◌^◌, ◌<◌, ◌≤◌, length}
use Rattle.scenario_reader.specs.TextLines.{nonblank_in}
use Rattle.lock_lines.specs.Reading.{read_from}
use Rattle.lock_lines.proofs.reading.read_lock_lines.Given as goal

abbrev pub invariant-loop-line : goal.invariant-loop-line
invariant-loop-line l = record {
  unread : read_from l.lines (nonblank_in l.rest) ≡ read_from l.initial.lines (nonblank_in l.initial.rest);
  numbered : l.rest.number + length l.rest.bytes.now < 2 ^ 32;
  few : length l.lines ≤ 200000;
}

abbrev pub decreases-loop-line : goal.decreases-loop-line
decreases-loop-line l = length l.rest.bytes.now
