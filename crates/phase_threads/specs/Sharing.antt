-- The actors of a phase at a shared board: what they are given, and what came of it.
use Rattle.std.specs.Prelude.{◌≡◌, ℕ, suc, ◌+◌, List, [], length, Some}
use Rattle.std.specs.List.{slice_get}
use Rattle.atomic_table.specs.Seated.{TableId}
use Rattle.bbs_board.specs.View.{View}
use Rattle.bbs_model.specs.declared.item.Item.{Item}
use Rattle.bbs_shared.specs.Passes.{seen_by}
use Rattle.bbs_shared.specs.Sharings.{whole_view}
use Rattle.bbs_shared.specs.declared.origin.Origin.{Origin}
use Rattle.crash_backoff.specs.declared.moment.Moment.{Moment}
use Rattle.scenario_lines.specs.declared.answered.Answered.{Answered}
use Rattle.scenario_lines.specs.declared.script.Line.{Line}
use Rattle.ticket_desk.specs.Passes.{AreAll, IsPass}
use Rattle.ticket_desk.specs.declared.pass.Pass.{Pass}
use Rattle.phase_actors.specs.Turns.{actor_standing, turns_in, IsCutShort, Takes}
use Rattle.phase_actors.specs.declared.actor_state.ActorState.{ActorState}
use Rattle.phase_runs.specs.Actors.{AreSameActors}
use Rattle.phase_threads.specs.Acting.{HasActedOut}
use Rattle.phase_threads.specs.declared.acting.Acting.{Acting}

-- R holds of what stands at each place of both lists, which are as long
pub record AtEach {A B : Type 0} (R : ℕ → A → B → Type 0) (xs : List A) (ys : List B) : Type 0 where
  pub length_is : length ys ≡ length xs
  pub at : (k : ℕ) (x : A) (y : B) → slice_get xs k ≡ Some x → slice_get ys k ≡ Some y → R k x y

module _ {V S : Type 0} where
  -- all passes of the desk z came back, one for each of so many actors and that of the round
  pub record AreBack (z : TableId) (actors : ℕ) (passes : List (Pass V Item (Origin S))) : Type 0 where
    pub count_is : length passes ≡ suc actors
    pub all : AreAll z passes

module _ {V S D : Type 0} where
  -- the pass of that number, of so many at the desk z, which has seen all of the board and has done nothing
  pub record IsOwn (board : View D) (z : TableId) (many by : ℕ) (p : Pass V Item (Origin S)) : Type 0 where
    pub pass : IsPass z many by p
    pub seen : seen_by p ≡ whole_view board

  -- the passes of the actors, which are those of the numbers from 1 on
  pub record AreOwn (board : View D) (z : TableId) (actors : ℕ) (passes : List (Pass V Item (Origin S))) : Type 0 where
    pub count_is : length passes ≡ actors
    pub own : (k : ℕ) (p : Pass V Item (Origin S)) → slice_get passes k ≡ Some p → IsOwn board z (actors + 1) (suc k) p

  -- the actor at a place has the pass of its number, and no answers yet
  pub record IsSet {P : Type 0} (pass_of : P → Pass V Item (Origin S)) (board : View D) (z : TableId) (many : ℕ)
      (k : ℕ) (a : ActorState) (x : Acting P) : Type 0 where
    pub by : x.by ≡ suc k
    pub own : IsOwn board z many (suc k) (pass_of x.port)
    pub actor : x.actor ≡ a
    pub none : x.part.items ≡ []

  -- the actor at a place has done its lines by the pass of its number, all or the first of them
  pub record IsOut {P : Type 0} (pass_of : P → Pass V Item (Origin S)) (board : View D) (z : TableId) (many : ℕ)
      (now : Moment) (lines : List Line) (k : ℕ) (a : ActorState) (x : Acting P) : Type 0 where
    pub pass : IsPass z many (suc k) (pass_of x.port)
    pub acted : HasActedOut now lines (suc k) a (whole_view board) x.actor (seen_by (pass_of x.port)) x.part.items x.starved

  -- all actors did all of their lines, with these answers, each by the pass of its number; that of the round is first
  pub record HaveRun (board : View D) (now : Moment) (lines : List Line) (olds news : List ActorState)
      (parts : List (List Answered)) (passes : List (Pass V Item (Origin S))) : Type 0 where
    pub parts_are : length parts ≡ length olds
    pub same : AreSameActors olds news
    pub ran : (k : ℕ) (a a' : ActorState) (answers : List Answered) (p : Pass V Item (Origin S))
        → slice_get olds k ≡ Some a → slice_get news k ≡ Some a' → slice_get parts k ≡ Some answers
        → slice_get passes (suc k) ≡ Some p
        → Takes (suc k) now (turns_in (suc k) lines) (actor_standing a (whole_view board) []) (actor_standing a' (seen_by p) answers)

  -- each actor did its lines up to some place
  pub record WereCut (board : View D) (now : Moment) (lines : List Line) (olds : List ActorState)
      (passes : List (Pass V Item (Origin S))) : Type 0 where
    pub news : List ActorState
    pub same : AreSameActors olds news
    pub cut : (k : ℕ) (a a' : ActorState) (p : Pass V Item (Origin S)) → slice_get olds k ≡ Some a
        → slice_get news k ≡ Some a' → slice_get passes (suc k) ≡ Some p
        → IsCutShort (suc k) now (turns_in (suc k) lines) a (whole_view board) a' (seen_by p)

  -- the round's pass was not used
  abbrev pub IsUnused : View D → List (Pass V Item (Origin S)) → Type 0
  IsUnused board passes = (p : Pass V Item (Origin S)) → slice_get passes 0 ≡ Some p → seen_by p ≡ whole_view board
