-- The actors of a scenario can do its lines.
use Rattle.std.proofs.Common.{◌≡◌, ℕ, suc, ◌<◌, ◌==◌, Bool, true, false, List}
use Rattle.std.proofs.Common.{[], length, get_or, Some, ap, subst, ◌∙◌, arith}
use Rattle.std.specs.List.{All, Contains, slice_get, slice_index_or}
use Rattle.std.specs.Option.{option_map}
use Rattle.std.proofs.lemmas.Bool.{eqb-true}
use Rattle.std.proofs.lemmas.List.{length-map}
use Rattle.std.proofs.lemmas.List.Elements.{All-contains, All-contains_itself, All-filter, filter_passes}
use Rattle.std.proofs.lemmas.Option.{slice_get-get_or, slice_get_within, slice_get-map}
use Rattle.scenario_lines.specs.Acts.{is_of_cell}
use Rattle.scenario_lines.specs.declared.act.Act.{Act}
use Rattle.scenario_lines.specs.declared.act.Act.TheVariants as act
use Rattle.scenario_lines.specs.declared.actor.Actor.{Actor}
use Rattle.scenario_lines.specs.declared.script.Line.{Line}
use Rattle.scenario_lines.specs.declared.script.Phase.{Phase}
use Rattle.scenario_lines.specs.declared.script.Script.{Script}
use Rattle.scenario_reader.specs.Facts.{IsLine, IsPhase, IsScript}
use Rattle.phase_actors.specs.Runs.{IsActOf, IsOneActor}
use Rattle.phase_actors.specs.Turns.{lines_by}
use Rattle.phase_actors.specs.declared.actor_state.ActorState.{ActorState}
use Rattle.phase_actors.specs.declared.actor_state.ActorState.TheVariants.{Client, Cell}
use Rattle.phase_runs.specs.Actors.{AreSameActors, CanAllDo}
use Rattle.scenario_player.specs.Actors.{starting_actors, new_actor}

-- each line of an actor is one of the lines, and the actor's
pub lines_of : (by : ℕ) (lines : List Line) → All (λ l. Contains lines l × (l.actor ≡ by)) (lines_by by lines)
lines_of by lines k d within = (
  All-filter (λ (l : Line). l.actor == by) (Contains lines) lines (All-contains_itself lines) k d within,
  eqb-true (slice_index_or (lines_by by lines) k d).actor by
      (filter_passes (λ (l : Line). l.actor == by) lines k d within),
)

-- one that was a cell, or none, does what it can do
fits_begun : (op : Act) (cell : Bool) (name : List ℕ) (a : ActorState) → cell ≡ is_of_cell op
    → IsOneActor (new_actor cell name) a → IsActOf op a
fits_begun (act.Client op) false name (Client n) is one = tt
fits_begun (act.Client op) false name (Cell r) is one = absurd one
fits_begun (act.Client op) true name a is one = absurd (cc (is))
fits_begun (act.Cell c) false name a is one = absurd (cc (is))
fits_begun (act.Cell c) true name (Client n) is one = absurd one
fits_begun (act.Cell c) true name (Cell r) is one = tt
fits_begun act.Evacuate false name a is one = absurd (cc (is))
fits_begun act.Evacuate true name (Client n) is one = absurd one
fits_begun act.Evacuate true name (Cell r) is one = tt

module _ (script : Script) (is_script : IsScript script) (actors : List ActorState)
    (same : AreSameActors (starting_actors script.actors) actors) where
  -- there are as many as the script has
  pub as_many : length actors ≡ length script.actors
  as_many = same.length_is ∙ length-map script.actors (λ (a : Actor). new_actor a.cell a.name)

  pub few_actors : length actors < 4096
  few_actors = omega (arith, as_many, is_script.few)

  module _ (phase : Phase) (among : Contains script.phases phase) where
    pub is_phase : IsPhase script.actors phase
    is_phase = All-contains (IsPhase script.actors) script.phases phase is_script.phases among

    one_can : (k : ℕ) (a : ActorState) → slice_get actors k ≡ Some a → (l : Line) → IsLine script.actors l
        → l.actor ≡ suc k → IsActOf l.act a
    one_can k a at l line number = fits_begun l.act who.cell who.name a whose
        (same.one k (new_actor who.cell who.name) a began at)
      where
        some : Actor
        some = record { cell = false; name = [] }

        who : Actor
        who = get_or script.actors k some

        within : k < length script.actors
        within = omega (arith, slice_get_within actors k a at, as_many)

        began : slice_get (starting_actors script.actors) k ≡ Some (new_actor who.cell who.name)
        began =
            slice_get-map (λ (x : Actor). new_actor x.cell x.name) script.actors k
            ∙ ap (option_map (λ (x : Actor). new_actor x.cell x.name)) (slice_get-get_or script.actors k some within)

        whose : who.cell ≡ is_of_cell l.act
        whose = subst (λ (n : ℕ). (slice_index_or script.actors n some).cell ≡ is_of_cell l.act) (omega (arith, number))
            (line.whose some)

    -- each can do all of its lines
    pub can_all : CanAllDo phase.lines actors
    can_all k a at l has =
        let whose =
        All-contains (λ (x : Line). Contains phase.lines x × (x.actor ≡ suc k)) (lines_by (suc k) phase.lines) l
        (lines_of (suc k) phase.lines) has in
        one_can k a at l (All-contains (IsLine script.actors) phase.lines l is_phase.lines whose.0) whose.1
