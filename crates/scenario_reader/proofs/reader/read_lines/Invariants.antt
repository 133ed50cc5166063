use Rattle.std.proofs.Common.{◌≡◌, ◌+◌, ◌^◌, ◌<◌, length}
use Rattle.scenario_reader.specs.Steps.{IsSmall, read_from}
use Rattle.scenario_reader.specs.TextLines.{nonblank_in}
use Rattle.scenario_reader.proofs.reader.read_lines.Given as goal

abbrev pub invariant-loop-line : goal.invariant-loop-line
invariant-loop-line l = record {
  unread : read_from l.reading (nonblank_in l.rest) ≡ read_from l.initial.reading (nonblank_in l.initial.rest);
  numbered : l.rest.number + length l.rest.bytes.now < 2 ^ 32;
  small : IsSmall l.reading;
}

abbrev pub decreases-loop-line : goal.decreases-loop-line
decreases-loop-line l = length l.rest.bytes.now
