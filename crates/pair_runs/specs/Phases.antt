-- Phases one after another: how far they came, and what was printed of them.
use Rattle.std.specs.Prelude.{◌≡◌, ℕ, ◌+◌, true, false, List, [], ◌∷◌, ◌++◌, length, map, Option, Result, Ok, Err}
use Rattle.std.specs.declared.vec.Vec.{Vec}
use Rattle.diego_names.specs.declared.memory.OutOfMemory.{OutOfMemory as Want}
use Rattle.program_ends.specs.Ports.{PrintsTo}
use Rattle.pair_lines.specs.declared.answered.PairAnswered.{PairAnswered}
use Rattle.scenario_lines.specs.declared.script.Phase.{Phase}
use Rattle.scenario_lines.specs.declared.script.Script.{Script}
use Rattle.pair_runs.specs.Accounts.{Serves, is_any_disk}
use Rattle.pair_runs.specs.Served.{ServerView}
use Rattle.pair_runs.specs.Telling.{IsTextOf}
use Rattle.pair_runs.specs.Turns.{PairTurn, phase_turns, turn_of}
use Rattle.pair_runs.specs.declared.phases.PhasesEnded.{PhasesEnded}
use Rattle.pair_runs.specs.declared.phases.PhasesEnded.TheVariants.{Done, Doubt, Unwritten, OutOfMemory}

-- the calls of a phase, each with its answer, and their text
pub record PlaysPhase (script : Script) (phase : Phase) (answers : List PairAnswered) (text : List ℕ) : Type 0 where
  pub turns : map turn_of answers ≡ phase_turns (length script.actors) phase
  pub text_is : IsTextOf script.actors answers text

-- a phase with these answers and this text, and what stands behind them
pub record BeginsWith (IsPhase : List PairAnswered → List ℕ → Type 0) (AreMore : List PairAnswered → List ℕ → Type 0)
    (answers : List PairAnswered) (text : List ℕ) : Type 0 where
  pub first : List PairAnswered
  pub rest : List PairAnswered
  pub words : List ℕ
  pub more : List ℕ
  pub answers_are : answers ≡ first ++ rest
  pub text_is : text ≡ words ++ more
  pub phase : IsPhase first words
  pub behind : AreMore rest more

-- these phases ran, one after another, with these answers and this text
abbrev pub PlaysPhases : Script → List Phase → List PairAnswered → List ℕ → Type 0
PlaysPhases script [] answers text = (answers ≡ []) × (text ≡ [])
PlaysPhases script (phase ∷ phases) answers text =
    BeginsWith (PlaysPhase script phase) (PlaysPhases script phases) answers text

-- the first calls of a phase were made
pub record CutsPhase (script : Script) (phase : Phase) (answers : List PairAnswered) : Type 0 where
  pub left : List PairTurn
  pub turns : phase_turns (length script.actors) phase ≡ map turn_of answers ++ left

-- the same of the first of these phases
pub record BeginsPhase (script : Script) (phases : List Phase) (answers : List PairAnswered) : Type 0 where
  pub phase : Phase
  pub later : List Phase
  pub split : phases ≡ phase ∷ later
  pub cuts : CutsPhase script phase answers

-- the last of the phases that ran, with its answers and its text
pub record EndsInPhase (script : Script) (phases : List Phase) (answers : List PairAnswered) (text : List ℕ) : Type 0 where
  pub phase : Phase
  pub later : List Phase
  pub split : phases ≡ phase ∷ later
  pub plays : PlaysPhase script phase answers text

-- where phases stop, by the phases that are left, the answers behind those in which no disk failed, and the whole text
-- before: at the end; behind one in which a disk failed; in the text of one; or amid one, where memory ran out
abbrev pub StopsIn : PhasesEnded → Script → List Phase → List PairAnswered → List ℕ → ℕ →
    Option (List ℕ) → Option (List ℕ) → ℕ → ℕ → Type 0
StopsIn Done script rest last before extra held held' faults faults' =
    (rest ≡ []) × (last ≡ []) × (extra ≡ 0) × PrintsTo true before held held' faults faults'
StopsIn Doubt script rest last before extra held held' faults faults' =
    (text : List ℕ) × EndsInPhase script rest last text × (is_any_disk last ≡ true) × (extra ≡ 1)
    × PrintsTo true (before ++ text) held held' faults faults'
StopsIn Unwritten script rest last before extra held held' faults faults' =
    (text : List ℕ) × EndsInPhase script rest last text × PrintsTo false (before ++ text) held held' faults faults'
StopsIn OutOfMemory script rest last before extra held held' faults faults' =
    BeginsPhase script rest last × PrintsTo true before held held' faults faults'

-- what a phase came to, by its answer: its text, where it ran whole; where memory ran out, some of its calls were made
abbrev pub PhaseTells : {Z : Type 0} → Script → Phase → Result (Vec ℕ Z) Want → List PairAnswered → Type 0
PhaseTells script phase (Ok text) new = PlaysPhase script phase new text.items
PhaseTells script phase (Err want) new = CutsPhase script phase new

-- a phase ran on a server, and came to that
pub record PhaseRuns {Z : Type 0} (script : Script) (phase : Phase) (end : Result (Vec ℕ Z) Want)
    (v w : ServerView) (before after : List PairAnswered) : Type 0 where
  pub new : List PairAnswered
  pub after_is : after ≡ before ++ new
  pub served : Serves v w new
  pub tells : PhaseTells script phase end new

-- how one phase ended on a server
abbrev pub StopsPhase : PhasesEnded → Script → Phase → List PairAnswered → Option (List ℕ) → Option (List ℕ) → ℕ → ℕ → Type 0
StopsPhase Done script phase new held held' faults faults' =
    (text : List ℕ) × PlaysPhase script phase new text × (is_any_disk new ≡ false)
    × PrintsTo true text held held' faults faults'
StopsPhase Doubt script phase new held held' faults faults' =
    (text : List ℕ) × PlaysPhase script phase new text × (is_any_disk new ≡ true)
    × PrintsTo true text held held' faults faults'
StopsPhase Unwritten script phase new held held' faults faults' =
    (text : List ℕ) × PlaysPhase script phase new text × PrintsTo false text held held' faults faults'
StopsPhase OutOfMemory script phase new held held' faults faults' =
    CutsPhase script phase new × (held' ≡ held) × (faults' ≡ faults)

-- the same, with what the server did
pub record PhaseEnds (script : Script) (phase : Phase) (how : PhasesEnded) (v w : ServerView)
    (before after : List PairAnswered) (held held' : Option (List ℕ)) (faults faults' : ℕ) : Type 0 where
  pub new : List PairAnswered
  pub after_is : after ≡ before ++ new
  pub served : Serves v w new
  pub stops : StopsPhase how script phase new held held' faults faults'

-- how phases ended on a server: the first of them ran and no disk failed, and then they stopped so; `told` counts those
-- that ran
pub record PhasesEnd (script : Script) (phases : List Phase) (how : PhasesEnded) (told : ℕ) (v w : ServerView)
    (answers answers' : List PairAnswered) (held held' : Option (List ℕ)) (faults faults' : ℕ) : Type 0 where
  pub ran : List Phase
  pub rest : List Phase
  pub split : phases ≡ ran ++ rest
  pub first : List PairAnswered
  pub text : List ℕ
  pub plays : PlaysPhases script ran first text
  pub calm : is_any_disk first ≡ false
  pub last : List PairAnswered
  pub answers_are : answers' ≡ answers ++ first ++ last
  pub served : Serves v w (first ++ last)
  pub extra : ℕ
  pub stops : StopsIn how script rest last text extra held held' faults faults'
  pub told_is : told ≡ length ran + extra
