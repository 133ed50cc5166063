-- The answers of a phase are to its lines.
use Rattle.std.proofs.Common.{◌≡◌, ℕ, suc, ◌<◌, ◌≤◌, List, [], ◌∷◌, ◌++◌, length}
use Rattle.std.proofs.Common.{map, get_or, Option, refl, arith}
use Rattle.std.specs.List.{All, Contains, flat_map, range_with_len, slice_index_or}
use Rattle.std.proofs.lemmas.List.Elements.{All-append, All-from_get_or, All-head, All-map, All-nil, All-same, All-tail}
use Rattle.std.proofs.lemmas.Option.{slice_get-get_or}
use Rattle.disk_trait.specs.Past.{Past}
use Rattle.bbs_board.specs.View.{View}
use Rattle.bbs_model.specs.PortView.{PortView}
use Rattle.cell_rep.specs.declared.call_end.Called.{Called}
use Rattle.convergence.specs.declared.report.Report.{Report}
use Rattle.crash_backoff.specs.declared.moment.Moment.{Moment}
use Rattle.scenario_lines.specs.declared.actor.Actor.{Actor}
use Rattle.scenario_lines.specs.declared.answered.Answered.{Answered}
use Rattle.scenario_lines.specs.declared.script.Line.{Line}
use Rattle.scenario_lines.specs.declared.script.Phase.{Phase}
use Rattle.scenario_lines.specs.declared.script.Script.{Script}
use Rattle.scenario_reader.specs.Facts.{IsScript}
use Rattle.phase_actors.specs.Turns.{line_answer, lines_by, TakesTurns, Turn, turn_at, turns_in, turns_of}
use Rattle.phase_actors.specs.declared.actor_state.ActorState.{ActorState}
use Rattle.phase_actors.specs.declared.actor_state.ActorState.TheVariants.{Client}
use Rattle.phase_runs.specs.Actors.{AreSameActors, PartRan}
use Rattle.phase_runs.specs.Phases.{PhaseRan}
use Rattle.phase_text.specs.Answers.{AreActorAnswers, IsActorAnswer}
use Rattle.phase_text.specs.Sorting.{joined_parts}
use Rattle.scenario_player.specs.Actors.{starting_actors}
use Rattle.scenario_player.proofs.Acting.{as_many, is_phase, lines_of}

all_flat : {X Y : Type 0} (f : X → List Y) (P : Y → Type 0) (xs : List X) → All (λ x. All P (f x)) xs
    → All P (flat_map f xs)
all_flat f P [] each = All-nil P
all_flat f P (x ∷ xs) each =
    All-append P (f x) (flat_map f xs) (All-head (λ y. All P (f y)) x xs each)
    (all_flat f P xs (All-tail (λ y. All P (f y)) x xs each))

-- one of these lines is the actor's and has that number
record HasLine (lines : List Line) (by number : ℕ) : Type 0 where
  line : Line
  among : Contains lines line
  number_is : line.line ≡ number
  actor_is : line.actor ≡ by

module _ (by : ℕ) (lines : List Line) where
  each_turn : All (λ (t : Turn). HasLine lines by t.line) (turns_in by lines)
  each_turn =
      all_flat turns_of OfTurn (lines_by by lines) (λ k d within.
      of_line (slice_index_or (lines_by by lines) k d) (lines_of by lines k d within))
    where
      OfTurn : Turn → Type 0
      OfTurn t = HasLine lines by t.line

      of_line : (l : Line) → Contains lines l × (l.actor ≡ by) → All OfTurn (turns_of l)
      of_line l is =
          All-map OfTurn (turn_at l) (range_with_len 0 l.times) (λ k d within. record {
            line =
                l;
            among = is.0;
            number_is = refl;
            actor_is = is.1;
          })

  module _ (actors : List Actor) (first : 1 ≤ by) (few : by ≤ length actors) where
    to_line : (number : ℕ) → HasLine lines by number → (c : Called)
        → IsActorAnswer actors lines (line_answer by number c)
    to_line number has c = record {
      line = record { line = has.line; among = has.among; number = has.number_is; actor = has.actor_is };
      actor = (first, few);
    }

    -- the answers to runs are to their lines
    answers_to : (now : Moment) (ts : List Turn) → All (λ (t : Turn). HasLine lines by t.line) ts
        → (a a' : ActorState) (v w : PortView) (new : List Answered)
        → TakesTurns by now ts a v new a' w → All (IsActorAnswer actors lines) new
    answers_to now [] has a a' v w new taken = All-same (IsActorAnswer actors lines) new [] taken.0
        (All-nil (IsActorAnswer actors lines))
    answers_to now (t ∷ ts) has a a' v w new taken =
        All-same (IsActorAnswer actors lines) new (map (line_answer by t.line) taken.0 ++ taken.1) taken.4
        (All-append (IsActorAnswer actors lines) (map (line_answer by t.line) taken.0) taken.1
        (All-map (IsActorAnswer actors lines) (line_answer by t.line) taken.0
        (λ k d within. to_line t.line (All-head (λ (x : Turn). HasLine lines by x.line) t ts has)
        (slice_index_or taken.0 k d)))
        (answers_to now ts (All-tail (λ (x : Turn). HasLine lines by x.line) t ts has) taken.2 a' taken.3 w taken.1
        taken.6))

module _ {D : Type 0} (told : D → Option Past) (script : Script) (is_script : IsScript script) (phase : Phase)
    (among : Contains script.phases phase)
    (olds news : List ActorState) (same : AreSameActors (starting_actors script.actors) olds)
    (parts : List (List Answered)) (report : Option Report) (v w : View D)
    (ran : PhaseRan told phase olds news parts report v w) where
  part_answers : (k : ℕ) → k < length parts → All (IsActorAnswer script.actors phase.lines) (get_or parts k [])
  part_answers k within =
      answers_to (suc k) phase.lines script.actors (omega arith)
      (omega (arith, old, as_many script is_script olds same)) phase.at (turns_in (suc k) phase.lines)
      (each_turn (suc k) phase.lines) (get_or olds k some) (get_or ran.mids k some) part.first part.last
      (get_or parts k []) part.taken
    where
      some : ActorState
      some = Client []

      old : k < length olds
      old = omega (arith, within, ran.count_is)

      part : PartRan v.base phase.at phase.lines v.log ran.fresh (suc k) (get_or olds k some) (get_or ran.mids k some)
          (get_or parts k [])
      part = ran.ran k (get_or olds k some) (get_or ran.mids k some) (get_or parts k [])
          (slice_get-get_or olds k some old)
          (slice_get-get_or ran.mids k some (omega (arith, old, ran.same.length_is)))
          (slice_get-get_or parts k [] within)

  -- all answers are to lines of the phase
  pub answers_of : AreActorAnswers script.actors phase.lines (joined_parts parts)
  answers_of = record {
    rising = (is_phase script is_script olds same phase among).rising;
    each = all_flat (λ (part : List Answered). part) (IsActorAnswer script.actors phase.lines) parts
        (All-from_get_or (λ (part : List Answered). All (IsActorAnswer script.actors phase.lines) part) parts []
        part_answers);
  }
