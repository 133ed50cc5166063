-- The round of each phase goes over the cells of the scenario.
use Rattle.std.proofs.Common.{◌≡◌, ℕ, Bool, true, false, List, [], ◌∷◌, Option, Some, None, refl, sym, ap, subst, ◌∙◌}
use Rattle.bbs_model.specs.declared.item.Item.{Item}
use Rattle.bbs_model.specs.declared.rows.Rows.{Rows}
use Rattle.cell_rep.specs.declared.rep.CellRep.{CellRep}
use Rattle.convergence.specs.declared.report.Report.{Report}
use Rattle.converge_round.specs.Askings.{StandApart}
use Rattle.converge_round.specs.Each.{Each}
use Rattle.converge_round.specs.Reps.{KeepReps, names_of}
use Rattle.crash_backoff.specs.declared.moment.Moment.{Moment}
use Rattle.scenario_lines.specs.declared.actor.Actor.{Actor}
use Rattle.scenario_lines.specs.declared.script.Phase.{Phase}
use Rattle.scenario_lines.specs.declared.script.RoundLine.{RoundLine}
use Rattle.scenario_lines.specs.declared.script.Script.{Script}
use Rattle.phase_actors.specs.declared.actor_state.ActorState.{ActorState}
use Rattle.phase_runs.specs.Reps.{reps_of}
use Rattle.scenario_player.specs.Actors.{starting_actors}
use Rattle.run_theorem.specs.Headline.{outset}
use Rattle.run_theorem.specs.Laws.{AreItsCells, GoOverItsCells, RoundsGoOverItsCells, cells_among}
use Rattle.run_theorem.specs.Phases.{PhaseAgrees, Point, RoundAgreesIf}
use Rattle.run_theorem.proofs.Names.{cell_names, names_apart, names_same}

one_starts : (cell : Bool) (n : List ℕ) (rest : List Actor) → cell_names (starting_actors rest) ≡ cells_among rest
    → cell_names (starting_actors (record { cell = cell; name = n } ∷ rest))
    ≡ cells_among (record { cell = cell; name = n } ∷ rest)
one_starts false n rest more = more
one_starts true n rest more = ap (λ (names : List (List ℕ)). n ∷ names) more

-- at the beginning they are the scenario's
names_start : (actors : List Actor) → cell_names (starting_actors actors) ≡ cells_among actors
names_start [] = refl
names_start (a ∷ rest) = one_starts a.cell a.name rest (names_start rest)

-- a round leaves the cells that there are
names_kept : (rs qs : List CellRep) → KeepReps rs qs → names_of qs ≡ names_of rs
names_kept [] [] kept = refl
names_kept [] (q ∷ qs) kept = absurd kept
names_kept (r ∷ rs) [] kept = absurd kept
names_kept (r ∷ rs) (q ∷ qs) kept = cc (kept.0.cell, names_kept rs qs kept.1)

module _ (base : Rows) (log : List Item) where
  names_behind : (round : Option RoundLine) (now : Moment) (from upto : ℕ) (olds news : List ActorState)
      (report : Option Report)
      → RoundAgreesIf round base log now from upto olds news report → cell_names news ≡ cell_names olds
  names_behind None now from upto olds news report agrees = ap cell_names agrees.1
  names_behind (Some line) now from upto olds news report agrees = names_kept (reps_of olds) (reps_of news) agrees.kept

  module _ (script : Script) (apart : StandApart (cells_among script.actors)) where
    its_cells : (actors : List ActorState) → cell_names actors ≡ cells_among script.actors
        → AreItsCells script (reps_of actors)
    its_cells actors is = record { names = is; apart = subst StandApart (sym is) apart }

    each_over : (phases : List Phase) (s t : Point) (each : Each (PhaseAgrees base log) phases s t)
        → cell_names s.actors ≡ cells_among script.actors
        → GoOverItsCells script base log phases s t each
    each_over [] s t each is = tt
    each_over (phase ∷ phases) s t (m, agrees, others) is =
        let there = names_same s.actors agrees.mids agrees.same ∙ is in (
          its_cells agrees.mids there,
          each_over phases m t others (names_behind phase.round phase.at s.place m.place agrees.mids m.actors
              agrees.report agrees.round ∙ there),
        )

pub go_over_its_cells : RoundsGoOverItsCells
go_over_its_cells script how answers reports base log run is_script =
    let first = names_start script.actors in
    each_over base log script (subst StandApart first (names_apart script.actors is_script.distinct)) run.order.ended
    (outset script) run.order.last run.order.each first
