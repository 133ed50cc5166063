-- The runs of lines, one after another.
use Rattle.std.specs.Prelude.{◌≡◌, ◌⊎◌, ℕ, zero, suc, ◌==◌, Bool, false, List, [], ◌∷◌, ◌++◌, map, filter, Option, None}
use Rattle.std.specs.List.{list_any, flat_map, range_with_len, Contains}
use Rattle.bbs_model.specs.PortView.{PortView}
use Rattle.cell_rep.specs.declared.call_end.Called.{Called}
use Rattle.crash_backoff.specs.declared.moment.Moment.{Moment}
use Rattle.scenario_lines.specs.declared.act.Act.{Act}
use Rattle.scenario_lines.specs.declared.act.Loss.{Loss}
use Rattle.scenario_lines.specs.declared.answered.Answered.{Answered}
use Rattle.scenario_lines.specs.declared.script.Line.{Line}
use Rattle.phase_actors.specs.Runs.{is_starved_end, HasRun, IsActOf, IsCutRun}
use Rattle.phase_actors.specs.declared.actor_state.ActorState.{ActorState}

-- a run that is to be made: of which line, what is done, and what is lost
pub record Turn : Type 0 where
  pub line : ℕ
  pub act : Act
  pub mark : Option Loss

-- a run of that line
abbrev pub line_turn : Line → Option Loss → Turn
line_turn l mark = record { line = l.line; act = l.act; mark = mark }

-- the first run of a line bears its mark
abbrev pub mark_at : Option Loss → ℕ → Option Loss
mark_at mark zero = mark
mark_at mark (suc n) = None

-- the run of a line with that number, counted from 0
abbrev pub turn_at : Line → ℕ → Turn
turn_at l n = line_turn l (mark_at l.lost n)

-- the runs of a line, as many as it says
abbrev pub turns_of : Line → List Turn
turns_of l = map (turn_at l) (range_with_len 0 l.times)

-- the lines of an actor
abbrev pub lines_by : ℕ → List Line → List Line
lines_by by lines = filter (λ l. l.actor == by) lines

-- the runs of an actor among these lines
abbrev pub turns_in : ℕ → List Line → List Turn
turns_in by lines = flat_map turns_of (lines_by by lines)

-- the actor is of the kind that each of its lines asks for
abbrev pub CanDo : ℕ → List Line → ActorState → Type 0
CanDo by lines a = (l : Line) → Contains (lines_by by lines) l → IsActOf l.act a

-- an actor's answer to a line
abbrev pub line_answer : ℕ → ℕ → Called → Answered
line_answer by line a = record { actor = by; line = line; command = a.command; end = a.end }

-- some answer is a want of memory
abbrev pub is_any_unfed : List Answered → Bool
is_any_unfed new = list_any (λ a. is_starved_end a.end) new

-- runs in order, with all their answers
abbrev pub TakesTurns : ℕ → Moment → List Turn → ActorState → PortView → List Answered → ActorState → PortView → Type 0
TakesTurns by now [] a v new a' w = (new ≡ []) × ((a' ≡ a) × (w ≡ v))
TakesTurns by now (t ∷ ts) a v new a' w =
    (first : List Called) × (rest : List Answered) × (mid : ActorState) × (m : PortView)
    × (new ≡ map (line_answer by t.line) first ++ rest)
    × HasRun by now t.act t.mark a mid v m first
    × TakesTurns by now ts mid m rest a' w

-- an actor, what it has seen of the board, and the answers so far
pub record ActorStanding : Type 0 where
  pub actor : ActorState
  pub view : PortView
  pub out : List Answered

-- these three
abbrev pub actor_standing : ActorState → PortView → List Answered → ActorStanding
actor_standing a v out = record { actor = a; view = v; out = out }

-- all these runs were made, none wanted memory, and their answers stand behind those that were there
pub record Takes (by : ℕ) (now : Moment) (ts : List Turn) (s s' : ActorStanding) : Type 0 where
  pub new : List Answered
  pub out_is : s'.out ≡ s.out ++ new
  pub taken : TakesTurns by now ts s.actor s.view new s'.actor s'.view
  pub fed : is_any_unfed new ≡ false

-- the next run began and was cut off, or none did
abbrev pub IsCutAt : ℕ → Moment → List Turn → ActorState → PortView → ActorState → PortView → Type 0
IsCutAt by now [] a v a' w = (a' ≡ a) × (w ≡ v)
IsCutAt by now (t ∷ ts) a v a' w =
    ((a' ≡ a) × (w ≡ v)) ⊎ ((new : List Called) × IsCutRun by now t.act t.mark a a' v w new)

-- of these runs the first ones were made, and the next was begun at most
pub record IsCutShort (by : ℕ) (now : Moment) (ts : List Turn) (a : ActorState) (v : PortView)
    (a' : ActorState) (w : PortView) : Type 0 where
  pub done : List Turn
  pub rest : List Turn
  pub split : ts ≡ done ++ rest
  pub new : List Answered
  pub mid : ActorState
  pub middle : PortView
  pub taken : TakesTurns by now done a v new mid middle
  pub cut : IsCutAt by now rest mid middle a' w
