-- What the actors of a phase did, whatever turns they had.
use Rattle.std.specs.Prelude.{◌≡◌, ◌⊎◌, ℕ, suc, ◌<◌, ◌≤◌, false, List, [], ◌++◌, length, Option, Some}
use Rattle.std.specs.List.{slice_get}
use Rattle.disk_trait.specs.Past.{Past}
use Rattle.bbs_board.specs.View.{View}
use Rattle.bbs_model.specs.Calls.{by_number}
use Rattle.bbs_model.specs.PortView.{PortView}
use Rattle.bbs_model.specs.declared.item.Item.{Item}
use Rattle.bbs_model.specs.declared.rows.Rows.{Rows}
use Rattle.crash_backoff.specs.declared.moment.Moment.{Moment}
use Rattle.scenario_lines.specs.declared.answered.Answered.{Answered}
use Rattle.scenario_lines.specs.declared.script.Line.{Line}
use Rattle.phase_actors.specs.Runs.{IsOneActor}
use Rattle.phase_actors.specs.Turns.{CanDo, is_any_unfed, IsCutShort, TakesTurns, turns_in}
use Rattle.phase_actors.specs.declared.actor_state.ActorState.{ActorState}
use Rattle.phase_runs.specs.Boards.{BoardGoesOn}

-- the second log goes on from the first
abbrev pub LogBegins : List Item → List Item → Type 0
LogBegins first log = (rest : List Item) × (log ≡ first ++ rest)

-- a caller's two views lie within a phase that began at a log and added these items, and it did its own of them
pub record SeesPhase (base : Rows) (before fresh : List Item) (by : ℕ) (v w : PortView) : Type 0 where
  pub base_is : v.base ≡ base
  pub from : LogBegins before v.seen
  pub upto : LogBegins w.seen (before ++ fresh)
  pub own : w.mine ≡ v.mine ++ by_number by fresh

-- the actor with that number did all of its lines, with these answers, and none wanted memory
pub record PartRan (base : Rows) (now : Moment) (lines : List Line) (before fresh : List Item) (by : ℕ)
    (a a' : ActorState) (answers : List Answered) : Type 0 where
  pub first : PortView
  pub last : PortView
  pub sees : SeesPhase base before fresh by first last
  pub taken : TakesTurns by now (turns_in by lines) a first answers a' last
  pub fed : is_any_unfed answers ≡ false

-- the actor with that number did its lines up to some place
pub record PartCut (base : Rows) (now : Moment) (lines : List Line) (before fresh : List Item) (by : ℕ) (a a' : ActorState) : Type 0 where
  pub first : PortView
  pub last : PortView
  pub sees : SeesPhase base before fresh by first last
  pub cut : IsCutShort by now (turns_in by lines) a first a' last

-- the number of an actor is one more than its place
abbrev pub CanAllDo : List Line → List ActorState → Type 0
CanAllDo lines actors = (k : ℕ) (a : ActorState) → slice_get actors k ≡ Some a → CanDo (suc k) lines a

-- each is still the client or the cell that it was
pub record AreSameActors (olds news : List ActorState) : Type 0 where
  pub length_is : length news ≡ length olds
  pub one : (k : ℕ) (a a' : ActorState) → slice_get olds k ≡ Some a → slice_get news k ≡ Some a' → IsOneActor a a'

-- no item is by the round, nor by anybody behind the first so many actors
abbrev pub AreByFirst : ℕ → List Item → Type 0
AreByFirst count fresh = (by : ℕ) → (by ≡ 0) ⊎ (count < by) → by_number by fresh ≡ []

-- the first so many actors did all of their lines, with these answers, and the others nothing
pub record FirstRan {D : Type 0} (told : D → Option Past) (now : Moment) (lines : List Line) (count : ℕ) (olds news : List ActorState)
    (parts : List (List Answered)) (v w : View D) : Type 0 where
  pub fresh : List Item
  pub goes : BoardGoesOn told fresh v w
  pub count_is : length parts ≡ count
  pub ran : (k : ℕ) (a a' : ActorState) (answers : List Answered) → slice_get olds k ≡ Some a → slice_get news k ≡ Some a'
      → slice_get parts k ≡ Some answers → PartRan v.base now lines v.log fresh (suc k) a a' answers
  pub still : (k : ℕ) (a : ActorState) → count ≤ k → slice_get news k ≡ Some a → slice_get olds k ≡ Some a
  pub others : AreByFirst count fresh
  pub same : AreSameActors olds news

-- all actors did all of their lines
abbrev pub ActorsRan : {D : Type 0} → (D → Option Past) → Moment → List Line → List ActorState → List ActorState →
    List (List Answered) → View D → View D → Type 0
ActorsRan told now lines olds news parts v w = FirstRan told now lines (length olds) olds news parts v w

-- each actor did its lines up to some place
pub record ActorsCut {D : Type 0} (told : D → Option Past) (now : Moment) (lines : List Line)
    (olds news : List ActorState) (v w : View D) : Type 0 where
  pub fresh : List Item
  pub goes : BoardGoesOn told fresh v w
  pub cut : (k : ℕ) (a a' : ActorState) → slice_get olds k ≡ Some a → slice_get news k ≡ Some a'
      → PartCut v.base now lines v.log fresh (suc k) a a'
  pub others : AreByFirst (length olds) fresh
  pub same : AreSameActors olds news
