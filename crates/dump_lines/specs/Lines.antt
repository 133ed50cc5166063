-- What a line is.
use Rattle.std.specs.Prelude.{ℕ, List, codes, ◌&&◌, Option, Some, None, is_some, Result, Ok, if◌then◌else◌}
use Rattle.serde_json.specs.Data.{Data}
use Rattle.serde_json.specs.Find.{as_str}
use Rattle.dump_lines.specs.Cells.{cell_state_in, place_in}
use Rattle.dump_lines.specs.Faults.{◌>>=◌, json_said, or_shape}
use Rattle.dump_lines.specs.Members.{has}
use Rattle.dump_lines.specs.Questions.{question_in}
use Rattle.dump_lines.specs.Rows.{actual_in, desired_in, task_in}
use Rattle.dump_lines.specs.declared.dump_line.DumpLine.{DumpLine}
use Rattle.dump_lines.specs.declared.dump_line.DumpLine.TheVariants as line
use Rattle.dump_lines.specs.declared.dump_line.LineKind.{LineKind}
use Rattle.dump_lines.specs.declared.dump_line.LineKind.TheVariants as kind
use Rattle.dump_lines.specs.declared.fault.LineFault.{LineFault}

-- the kind of a line: of two that it could be, the first
abbrev pub kind_of : Data → Option LineKind
kind_of d =
    if has (codes "ask") d then Some kind.Question
    else (if has (codes "TotalResources") d then Some kind.State
    else (if has (codes "capacity") d then Some kind.Listed
    else (if has (codes "task_guid") d then Some kind.Task
    else (if has (codes "process_guid") d && has (codes "instances") d then Some kind.Desired
    else (if has (codes "process_guid") d && has (codes "index") d then Some kind.Actual
    else (if is_some (as_str d) then Some kind.Domain
    else None))))))

-- what a line of this kind is
unfoldable pub line_in : LineKind → Data → Result DumpLine LineFault
line_in kind.Question d = question_in d >>= λ asked. Ok (line.Asks asked)
line_in kind.State d = cell_state_in d >>= λ state. Ok (line.State state)
line_in kind.Listed d = place_in (codes "zone") d >>= λ place. Ok (line.Listed place)
line_in kind.Task d = task_in d >>= λ task. Ok (line.Task task)
line_in kind.Desired d = desired_in d >>= λ desired. Ok (line.Desired desired)
line_in kind.Actual d = actual_in d >>= λ actual. Ok (line.Actual actual)
line_in kind.Domain d = Ok line.Domain

-- what a value is as a line
unfoldable pub line_as : Data → Result DumpLine LineFault
line_as d = or_shape (kind_of d) >>= λ kind. line_in kind d

-- what the bytes of a line are
unfoldable pub line_of : List ℕ → Result DumpLine LineFault
line_of bytes = json_said bytes >>= line_as
