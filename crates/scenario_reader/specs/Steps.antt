-- What the lines so far have come to, line by line.
use Rattle.std.specs.Prelude.{ℕ, ◌+◌, ◌≤◌, List, [], ◌∷◌, ◌++◌, Bool, false, ◌&&◌, ◌||◌, nat_lt, length, Option, Some, None, is_some, option_to_list, Result, Ok, Err, if◌then◌else◌}
use Rattle.crash_backoff.specs.declared.moment.Moment.{Moment}
use Rattle.scenario_lines.specs.Acts.{is_of_cell}
use Rattle.scenario_lines.specs.declared.content.ActLine.{ActLine}
use Rattle.scenario_lines.specs.declared.content.Content.{Content}
use Rattle.scenario_lines.specs.declared.content.Content.TheVariants.{Phase as At, Acts, Round}
use Rattle.scenario_lines.specs.declared.content.Losses.{Losses}
use Rattle.scenario_reader.specs.Actors.{with_actor}
use Rattle.scenario_reader.specs.Faults.{◌>>=◌, GivesReading, said_on}
use Rattle.scenario_reader.specs.Order.{is_misplaced}
use Rattle.scenario_reader.specs.Phases.{act_line, round_line}
use Rattle.scenario_reader.specs.TextLines.{NumberedLine}
use Rattle.scenario_reader.specs.declared.fault.ScriptFault.{ScriptFault}
use Rattle.scenario_reader.specs.declared.fault.ScriptFault.TheVariants.{BadOrder, TooMuch}
use Rattle.scenario_reader.specs.declared.reading.Reading.{Reading}
use Rattle.scenario_lines.specs.declared.script.Line.{Line}
use Rattle.scenario_lines.specs.declared.script.Phase.{Phase}
use Rattle.scenario_lines.specs.declared.script.Script.{Script}

-- no line was read
abbrev pub start : Reading
start = record { actors = []; closed = []; last = None; runs = 0 }

-- an answer to a step, and the reading that it left: that is the one that was to come, or the answer is the fault,
-- unless memory ran out
abbrev pub Leads : Result (Unit {0}) ScriptFault → Reading → Result Reading ScriptFault → Type 0
Leads result reading next = GivesReading (result >>= λ done. Ok reading) next

-- what was read is within the limits
pub record IsSmall (reading : Reading) : Type 0 where
  pub actors : length reading.actors ≤ 256
  pub runs : reading.runs ≤ 200000

-- a phase without lines
abbrev pub begun_at : Moment → Phase
begun_at at = record { at = at; lines = []; round = None }

-- a phase with one more line
abbrev pub with_line : Phase → Line → Phase
with_line phase line = record phase { lines = phase.lines ++ line ∷ [] }

-- a moment is less than that of the last phase
abbrev pub is_before : Moment → Option Phase → Bool
is_before at None = false
is_before at (Some phase) = nat_lt at.0 phase.at.0

-- a phase begins
abbrev pub begin_phase : Reading → ℕ → Moment → Result Reading ScriptFault
begin_phase reading line at =
    if is_before at reading.last then Err (BadOrder line)
    else Ok (record reading { closed = reading.closed ++ option_to_list reading.last; last = Some (begun_at at) })

-- the reading within the limits
abbrev pub within : ℕ → Reading → Result Reading ScriptFault
within line reading =
    if nat_lt 256 (length reading.actors) || nat_lt 200000 reading.runs then Err (TooMuch line) else Ok reading

-- an actor acts in the last phase
abbrev pub acted_in : Option Phase → Reading → ℕ → ActLine → Result Reading ScriptFault
acted_in None reading line act = Err (BadOrder line)
acted_in (Some phase) reading line act =
    if is_of_cell act.act && is_some phase.round then Err (BadOrder line)
    else within line (record {
      actors = with_actor reading.actors act.actor;
      closed = reading.closed;
      last = Some (with_line phase (act_line reading.actors line act));
      runs = reading.runs + act.times;
    })

-- an actor acts
abbrev pub acted : Reading → ℕ → ActLine → Result Reading ScriptFault
acted reading line act = acted_in reading.last reading line act

-- a round is run in the last phase
abbrev pub rounded_in : Option Phase → Reading → ℕ → Losses → Result Reading ScriptFault
rounded_in None reading line losses = Err (BadOrder line)
rounded_in (Some phase) reading line losses =
    if is_misplaced (Some phase) (Round losses) then Err (BadOrder line)
    else within line (record reading {
      last = Some (record phase { round = Some (round_line line losses) });
      runs = reading.runs + 1;
    })

-- a round is run
abbrev pub rounded : Reading → ℕ → Losses → Result Reading ScriptFault
rounded reading line losses = rounded_in reading.last reading line losses

-- what a line comes to
abbrev pub step : Reading → ℕ → Content → Result Reading ScriptFault
step reading line (At at) = begin_phase reading line at
step reading line (Acts act) = acted reading line act
step reading line (Round losses) = rounded reading line losses

-- what a line of a text comes to
abbrev pub step_on : Reading → NumberedLine → Result Reading ScriptFault
step_on reading line = said_on line >>= λ content. step reading line.number content

-- what lines come to, one after the other
abbrev pub read_from : Reading → List NumberedLine → Result Reading ScriptFault
read_from reading [] = Ok reading
read_from reading (line ∷ lines) = step_on reading line >>= λ next. read_from next lines

-- the scenario of what was read
abbrev pub script_in : Reading → Script
script_in reading = record { actors = reading.actors; phases = reading.closed ++ option_to_list reading.last }
