-- What an actor of a phase did on its thread.
use Rattle.std.specs.Prelude.{◌≡◌, ℕ, Bool, true, false, List, []}
use Rattle.bbs_model.specs.PortView.{PortView}
use Rattle.crash_backoff.specs.declared.moment.Moment.{Moment}
use Rattle.scenario_lines.specs.declared.answered.Answered.{Answered}
use Rattle.scenario_lines.specs.declared.script.Line.{Line}
use Rattle.phase_actors.specs.Runs.{IsOneActor}
use Rattle.phase_actors.specs.Turns.{actor_standing, turns_in, CanDo, IsCutShort, Takes}
use Rattle.phase_actors.specs.declared.actor_state.ActorState.{ActorState}
use Rattle.phase_threads.specs.declared.acting.Acting.{Acting}

-- the actor with that number did all of its lines, with these answers, or memory ran out and it did the first of them
pub record HasActedOut (now : Moment) (lines : List Line) (by : ℕ) (a : ActorState) (v : PortView)
    (a' : ActorState) (w : PortView) (answers : List Answered) (starved : Bool) : Type 0 where
  pub one : IsOneActor a a'
  pub whole : starved ≡ false → Takes by now (turns_in by lines) (actor_standing a v []) (actor_standing a' w answers)
  pub cut : starved ≡ true → IsCutShort by now (turns_in by lines) a v a' w

module _ {P : Type 0} where
  -- it may begin: its port has its number, it can do its lines, and it has no answers yet
  pub record IsReady (number_of : P → ℕ) (lines : List Line) (x : Acting P) : Type 0 where
    pub number : number_of x.port ≡ x.by
    pub can : CanDo x.by lines x.actor
    pub none : x.part.items ≡ []

  -- it has done its lines over its port, all or the first of them
  pub record ActsOut (view : P → PortView) (Keeps : P → P → Type 0) (now : Moment) (lines : List Line)
      (x y : Acting P) : Type 0 where
    pub by : y.by ≡ x.by
    pub keeps : Keeps x.port y.port
    pub acted : HasActedOut now lines x.by x.actor (view x.port) y.actor (view y.port) y.part.items y.starved
