-- The stages of a round, one after another.
use Rattle.std.proofs.Common.{◌≡◌, ℕ, true, List, IsSome, refl, sym, ◌∙◌, subst}
use Rattle.std.specs.List.{Contains}
use Rattle.cell_records.specs.declared.answer.Answer.{Answer}
use Rattle.crash_backoff.specs.declared.moment.Moment.{Moment}
use Rattle.bbs_model.specs.Runs.{state_after_all}
use Rattle.bbs_model.specs.Valid.{IsValid}
use Rattle.bbs_model.specs.Work.{is_there, work}
use Rattle.bbs_model.specs.declared.command.Command.{Command}
use Rattle.bbs_model.specs.declared.rows.Rows.{Rows}
use Rattle.convergence.specs.Containers.{is_answer_of, answer_from}
use Rattle.convergence.specs.Plans.{plan_of_answers}
use Rattle.convergence.specs.Strays.{strays}
use Rattle.converge_laws.specs.Accepted.{AreAccepted, AreApart}
use Rattle.converge_laws.specs.Converged.{IsConverged}
use Rattle.converge_laws.specs.Laws.{KeepsGround, after_work, after_plan}
use Rattle.converge_laws.specs.Stages.{IsWorked, IsPlanned, IsCleared, HaveAnswered, IsWithout, AreWithout, AreWith, PlacesAll}
use Rattle.converge_laws.proofs.ClaimStage.{claims-converge}
use Rattle.converge_laws.proofs.Held.{found-there}
use Rattle.converge_laws.proofs.Lists.{zip_find}
use Rattle.converge_laws.proofs.PlanStage.{plan-ground, plan-leaves_held}
use Rattle.converge_laws.proofs.Runs.{run-valid}
use Rattle.converge_laws.proofs.StopStage.{alike, stops-leave_none}
use Rattle.converge_laws.proofs.WorkStage.{work-ground, work-leaves_suspicions}

-- who has answered has answered where the same cells are there
pub answered-ground : (old new : Rows) (got stores : List Answer) (now : Moment) → KeepsGround now old new
    → HaveAnswered old got stores now → HaveAnswered new got stores now
answered-ground old new got stores now ground heard = record {
  inside = heard.inside;
  differ = heard.differ;
  there = λ cell epoch there. heard.there cell epoch (sym (ground.there cell epoch) ∙ there);
  rising = heard.rising;
}

-- a cell that is there has an answer among what is left
pub answered-left : (rows : Rows) (got before left : List Answer) (now : Moment) → HaveAnswered rows got before now
    → AreWithout (strays rows got) before left
    → (cell : List ℕ) (epoch : ℕ) → is_there rows now cell epoch ≡ true → IsSome (answer_from left cell epoch)
answered-left rows got before left now heard without cell epoch there =
    let f = found-there rows got before now heard cell epoch there in
    let y = zip_find (IsWithout (strays rows got)) (is_answer_of cell epoch)
    (λ a b r. alike cell epoch a b r.same) before left f.answer without f.in_stores in
    subst (λ o. IsSome o) (sym y.1) refl

module _ (rows : Rows) (got before left after : List Answer) (now : Moment) (cs : List Command) (valid : IsValid rows)
    (heard : HaveAnswered rows got before now)
    (worked : AreAccepted rows (work rows now)) (planned : AreAccepted (after_work rows now)
    (plan_of_answers (after_work rows now) got now))
    (without : AreWithout (strays (after_plan rows got now) got) before left) (apart : AreApart cs)
    (claimed : AreAccepted (after_plan rows got now) cs)
    (moments : (c : Command) → Contains cs c → c.now ≡ now) (places : PlacesAll (after_plan rows got now) now cs)
    (with' : AreWith cs left after) where
  valid-worked : IsValid (after_work rows now)
  valid-worked = run-valid rows (work rows now) valid

  heard-worked : HaveAnswered (after_work rows now) got before now
  heard-worked = answered-ground rows (after_work rows now) got before now (work-ground rows now valid worked) heard

  is-worked : IsWorked (after_work rows now) now
  is-worked = work-leaves_suspicions rows now valid worked

  is-planned : IsPlanned (after_plan rows got now) before now
  is-planned = plan-leaves_held (after_work rows now) got before now valid-worked is-worked heard-worked planned

  heard-planned : HaveAnswered (after_plan rows got now) got before now
  heard-planned =
      answered-ground (after_work rows now) (after_plan rows got now) got before now
      (plan-ground (after_work rows now) got before now valid-worked is-worked heard-worked planned) heard-worked

  is-cleared : IsCleared (after_plan rows got now) left now
  is-cleared = stops-leave_none (after_plan rows got now) got before left now heard-planned without is-planned

  pub round-converges : IsConverged (state_after_all (after_plan rows got now) cs) after now
  round-converges =
      claims-converge (after_plan rows got now) left after now cs (record {
        valid = run-valid (after_work rows now) (plan_of_answers (after_work rows now) got now) valid-worked;
        cleared = is-cleared;
        apart = apart;
        taken = claimed;
        moments = moments;
        places = places;
        answered = answered-left (after_plan rows got now) got before left now heard-planned without;
        with_claims = with';
      })
