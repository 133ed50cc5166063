-- The calls of a phase: the clients in the order of their numbers, each line as often as it says.
use Rattle.std.specs.Prelude.{◌≡◌, ℕ, zero, suc, ◌==◌, List, [], ◌++◌, map, filter, Option, Some, None}
use Rattle.std.specs.List.{flat_map, range_with_len}
use Rattle.bbs_model.specs.declared.command.Command.{Command}
use Rattle.crash_backoff.specs.declared.moment.Moment.{Moment}
use Rattle.scenario_lines.specs.declared.act.Act.{Act}
use Rattle.scenario_lines.specs.declared.act.Act.TheVariants.{Client, Cell, Evacuate}
use Rattle.scenario_lines.specs.declared.act.Loss.{Loss}
use Rattle.scenario_lines.specs.declared.act.Loss.TheVariants.{Call, Reply}
use Rattle.scenario_lines.specs.declared.script.Line.{Line}
use Rattle.scenario_lines.specs.declared.script.Phase.{Phase}
use Rattle.pair_lines.specs.declared.answered.PairAnswered.{PairAnswered}
use Rattle.pair_lines.specs.declared.answered.PairEnded.{PairEnded}
use Rattle.pair_lines.specs.declared.answered.PairEnded.TheVariants.{Got, Fault, CallLost, ReplyLost}
use Rattle.pair_runs.specs.Accounts.{Serves}
use Rattle.pair_runs.specs.Served.{ServerView}

-- a call that is to be made: whose it is, of which line, with which command, and what is lost of it
pub record PairTurn : Type 0 where
  pub actor : ℕ
  pub line : ℕ
  pub command : Command
  pub mark : Option Loss

-- what was lost of a call that ended so
abbrev pub mark_of : PairEnded → Option Loss
mark_of (Got reply) = None
mark_of (Fault why) = None
mark_of CallLost = Some Call
mark_of (ReplyLost end) = Some Reply

-- the call that an answer is to
abbrev pub turn_of : PairAnswered → PairTurn
turn_of a = record { actor = a.actor; line = a.line; command = a.command; mark = mark_of a.end }

-- the first run of a line bears its mark
abbrev pub mark_at : Option Loss → ℕ → Option Loss
mark_at mark zero = mark
mark_at mark (suc n) = None

-- a run of a line with a command, under a mark
abbrev pub line_turn : Line → Command → Option Loss → PairTurn
line_turn l c mark = record { actor = l.actor; line = l.line; command = c; mark = mark }

-- the run of a line with that number, counted from 0
abbrev pub turn_at : Line → Command → ℕ → PairTurn
turn_at l c n = line_turn l c (mark_at l.lost n)

-- the runs of a line with a command, as many as it says
abbrev pub turns_with : Line → Command → List PairTurn
turns_with l c = map (turn_at l c) (range_with_len 0 l.times)

-- the runs of a line by what it does; one that is no client's has none
abbrev pub turns_by_act : Moment → Line → Act → List PairTurn
turns_by_act at l (Client op) = turns_with l (record { now = at; op = op })
turns_by_act at l (Cell act) = []
turns_by_act at l Evacuate = []

-- the runs of a line at this moment
abbrev pub turns_of : Moment → Line → List PairTurn
turns_of at l = turns_by_act at l l.act

-- the runs of the lines of an actor
abbrev pub turns_in : Moment → List Line → ℕ → List PairTurn
turns_in at lines by = flat_map (turns_of at) (filter (λ l. l.actor == by) lines)

-- the parts, one behind the other
abbrev pub joined : List (List PairTurn) → List PairTurn
joined parts = flat_map (λ part. part) parts

-- the runs of these lines, of so many actors in the order of their numbers
abbrev pub turns_of_all : Moment → List Line → ℕ → List PairTurn
turns_of_all at lines actors = joined (map (turns_in at lines) (range_with_len 1 actors))

-- the calls of a phase, where there are so many actors
abbrev pub phase_turns : ℕ → Phase → List PairTurn
phase_turns actors phase = turns_of_all phase.at phase.lines actors

-- these calls were made one after another, and their answers stand behind those that were there
pub record RunsTurns (turns : List PairTurn) (v w : ServerView) (before after : List PairAnswered) : Type 0 where
  pub new : List PairAnswered
  pub after_is : after ≡ before ++ new
  pub turns_are : map turn_of new ≡ turns
  pub served : Serves v w new

-- of these calls the first ones were made
pub record RunsSome (turns : List PairTurn) (v w : ServerView) (before after : List PairAnswered) : Type 0 where
  pub first : List PairTurn
  pub rest : List PairTurn
  pub split : turns ≡ first ++ rest
  pub runs : RunsTurns first v w before after
