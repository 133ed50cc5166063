-- A dump: the lines of a text, up to the first that is faulty, and then its questions.
use Rattle.std.specs.Prelude.{ℕ, List, [], ◌∷◌, Result, Ok}
use Rattle.dump_reader.specs.Answerable.{questions_verdict}
use Rattle.dump_reader.specs.Faults.{◌>>=◌, FaultAt, said_on}
use Rattle.dump_reader.specs.Lines.{admit}
use Rattle.dump_reader.specs.TextLines.{NumberedLine, nonblank_lines}
use Rattle.dump_reader.specs.declared.dump.Dump.{Dump}
use Rattle.dump_reader.specs.declared.dump.LineCounts.{LineCounts}

-- no lines
abbrev pub no_counts : LineCounts
no_counts = record { actual = 0; cells = 0; desired = 0; domains = 0; states = 0; tasks = 0 }

-- a dump without lines
abbrev pub no_dump : Dump
no_dump = record {
  counts = no_counts;
  states = [];
  listed = [];
  tasks = [];
  desired = [];
  actual = [];
  questions = [];
}

-- the dump with a line of the text, or the first fault of the line: by itself, and then beside the lines before it
abbrev pub step_on : Dump → NumberedLine → Result Dump FaultAt
step_on dump line = said_on line >>= admit dump line.number

-- the dump with these lines, or the fault of the first that is faulty
abbrev pub accepted : Dump → List NumberedLine → Result Dump FaultAt
accepted dump [] = Ok dump
accepted dump (line ∷ lines) = step_on dump line >>= λ next. accepted next lines

-- the dump, unless one of its questions can't be answered
abbrev pub answerable : Dump → Result Dump FaultAt
answerable dump = questions_verdict dump dump.questions >>= λ fine. Ok dump

-- the dump that the bytes are, or its first fault: that of the first faulty line, and where no line has one, that of the
-- first question that can't be answered
unfoldable pub dump_of : List ℕ → Result Dump FaultAt
dump_of bytes = accepted no_dump (nonblank_lines bytes) >>= answerable
