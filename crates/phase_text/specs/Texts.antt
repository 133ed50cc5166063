-- The text of a phase: its answers and the report of its round by line, and then its events.
use Rattle.std.specs.Prelude.{ℕ, ◌==◌, ◌-◌, nat_lt, not, List, [], ◌++◌, filter, find, Option, Some, None, slice_get}
use Rattle.std.specs.List.{flat_map}
use Rattle.std.specs.Option.{option_map_or}
use Rattle.bbs_model.specs.declared.event.Event.{Event}
use Rattle.convergence.specs.declared.report.Report.{Report}
use Rattle.record_print.specs.Printed.{line_text, answer_data, event_data}
use Rattle.record_print.specs.PrintedRounds.{report_data, failed_round_data}
use Rattle.scenario_lines.specs.declared.actor.Actor.{Actor}
use Rattle.scenario_lines.specs.declared.answered.Answered.{Answered}
use Rattle.scenario_lines.specs.declared.script.Line.{Line}
use Rattle.scenario_lines.specs.declared.script.Phase.{Phase}
use Rattle.scenario_lines.specs.declared.script.RoundLine.{RoundLine}
use Rattle.scenario_lines.specs.declared.script.Script.{Script}
use Rattle.phase_text.specs.Asking.{asked_at}

-- the name of an actor, by its number; actors count from 1
abbrev pub actor_name : List Actor → ℕ → List ℕ
actor_name actors number = option_map_or (λ actor. actor.name) (slice_get actors (number - 1)) []

-- the first of these lines that has a number
abbrev pub line_numbered : List Line → ℕ → Option Line
line_numbered lines number = find (λ line. line.line == number) lines

-- what is told of an answer to a line: how its actor's call ended, or that it made none
abbrev pub answer_at : List ℕ → Answered → Line → List ℕ
answer_at name a line = line_text (answer_data name a.line (asked_at line a.command) a.end)

-- what is told of an answer; nothing of one to none of these lines
abbrev pub answer_words : List Actor → List Line → Answered → List ℕ
answer_words actors lines a = option_map_or (answer_at (actor_name actors a.actor) a) (line_numbered lines a.line) []

-- what is told of answers, each in its turn
abbrev pub answers_words : List Actor → List Line → List Answered → List ℕ
answers_words actors lines answers = flat_map (answer_words actors lines) answers

-- the answers to lines before a line
abbrev pub answers_before : ℕ → List Answered → List Answered
answers_before number answers = filter (λ a. nat_lt a.line number) answers

-- the others
abbrev pub answers_behind : ℕ → List Answered → List Answered
answers_behind number answers = filter (λ a. not (nat_lt a.line number)) answers

-- what is told of a round: its report, and without one that the disk ended it
abbrev pub round_words : RoundLine → Option Report → List ℕ
round_words round (Some report) = line_text (report_data report)
round_words round None = line_text (failed_round_data round.line)

-- what is told of a phase's lines, its round in its place among them
abbrev pub lines_words : List Actor → List Line → Option RoundLine → List Answered → Option Report → List ℕ
lines_words actors lines None answers report = answers_words actors lines answers
lines_words actors lines (Some round) answers report =
    answers_words actors lines (answers_before round.line answers)
    ++ (round_words round report ++ answers_words actors lines (answers_behind round.line answers))

-- what is told of an event
abbrev pub event_words : Event → List ℕ
event_words event = line_text (event_data event)

-- what is told of events, each in its turn
abbrev pub events_words : List Event → List ℕ
events_words events = flat_map event_words events

-- the text of a phase, of its answers by line and its events by key
abbrev pub phase_words : Script → Phase → List Answered → Option Report → List Event → List ℕ
phase_words script phase answers report events =
    lines_words script.actors phase.lines phase.round answers report ++ events_words events
