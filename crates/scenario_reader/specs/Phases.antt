-- The phases of a scenario: what stands from one at to the next.
use Rattle.std.specs.Prelude.{ℕ, List, [], ◌∷◌, ◌++◌, Option, Some, None, if◌then◌else◌, filter_map}
use Rattle.std.specs.Option.{option_or}
use Rattle.crash_backoff.specs.declared.moment.Moment.{Moment}
use Rattle.scenario_lines.specs.declared.actor.Actor.{Actor}
use Rattle.scenario_lines.specs.declared.content.ActLine.{ActLine}
use Rattle.scenario_lines.specs.declared.content.Content.{Content}
use Rattle.scenario_lines.specs.declared.content.Content.TheVariants.{Phase as At, Acts, Round}
use Rattle.scenario_lines.specs.declared.content.Losses.{Losses}
use Rattle.scenario_reader.specs.Actors.{actors_of, actor_number}
use Rattle.scenario_reader.specs.Said.{SaidLine, is_at}
use Rattle.scenario_lines.specs.declared.script.Line.{Line}
use Rattle.scenario_lines.specs.declared.script.Phase.{Phase}
use Rattle.scenario_lines.specs.declared.script.RoundLine.{RoundLine}
use Rattle.scenario_lines.specs.declared.script.Script.{Script}

-- what an actor does on a line, with the actor's number
abbrev pub act_line : List Actor → ℕ → ActLine → Line
act_line actors line act =
    record { line = line; actor = actor_number actors act.actor; act = act.act; lost = act.lost; times = act.times }

-- what is lost in the round of a line
abbrev pub round_line : ℕ → Losses → RoundLine
round_line line losses =
    record {
      line = line;
      lose_ask = losses.ask;
      lose_stop = losses.stop;
      lose_start = losses.start;
      lose_reply = losses.reply;
    }

-- the line of an actor, if it is one
abbrev pub act_on : List Actor → ℕ → Content → Option Line
act_on actors line (At at) = None
act_on actors line (Acts act) = Some (act_line actors line act)
act_on actors line (Round losses) = None

-- the round of a line, if it has one
abbrev pub round_on : ℕ → Content → Option RoundLine
round_on line (At at) = None
round_on line (Acts act) = None
round_on line (Round losses) = Some (round_line line losses)

-- the lines of actors among these
abbrev pub acts_in : List Actor → List SaidLine → List Line
acts_in actors lines = filter_map (λ said. act_on actors said.line said.content) lines

-- the round among these lines, if there is one
abbrev pub round_in : List SaidLine → Option RoundLine
round_in [] = None
round_in (said ∷ more) = option_or (round_on said.line said.content) (round_in more)

-- the lines up to the next at
abbrev pub until_at : List SaidLine → List SaidLine
until_at [] = []
until_at (said ∷ more) = if is_at said.content then [] else said ∷ until_at more

-- the phase that begins at this moment, with these lines behind its at
abbrev pub phase_of : List Actor → Moment → List SaidLine → Phase
phase_of actors at behind =
    record { at = at; lines = acts_in actors (until_at behind); round = round_in (until_at behind) }

-- the phase that a line begins, if it is an at, with these lines behind it
abbrev pub begun_by : List Actor → Content → List SaidLine → List Phase
begun_by actors (At at) behind = phase_of actors at behind ∷ []
begun_by actors (Acts act) behind = []
begun_by actors (Round losses) behind = []

-- the phases of these lines
abbrev pub phases_of : List Actor → List SaidLine → List Phase
phases_of actors [] = []
phases_of actors (said ∷ more) = begun_by actors said.content more ++ phases_of actors more

-- the scenario of these lines
abbrev pub script_said : List SaidLine → Script
script_said lines = record { actors = actors_of lines; phases = phases_of (actors_of lines) lines }
