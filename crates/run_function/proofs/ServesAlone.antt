-- Cells are served as a round that is alone serves them.
use Rattle.std.proofs.Common.{◌≡◌, ℕ, List, [], ◌∷◌, refl, sym, ap, subst, ◌∙◌, ⊎_elim}
use Rattle.cell_records.specs.declared.answer.Answer.{Answer}
use Rattle.cell_records.specs.declared.job.Job.{Job}
use Rattle.converge_round.specs.Each.{Each}
use Rattle.converge_round.specs.Phases.{ClaimsAt, Course, ServesOne}
use Rattle.converge_round.specs.Places.{jobs_on}
use Rattle.converge_round.specs.Reps.{HasNoRep}
use Rattle.converge_round.specs.Starts.{claiming}
use Rattle.converge_round.specs.declared.placing.Places.{Places}
use Rattle.crash_backoff.specs.declared.moment.Moment.{Moment}
use Rattle.scenario_lines.specs.declared.script.RoundLine.{RoundLine}
use Rattle.run_function.specs.Boards.{board_seen}
use Rattle.run_function.specs.Reps.{with_rep}
use Rattle.run_function.specs.RoundLaws.{AreReps}
use Rattle.run_function.specs.Rounds.{SoleCells, SoleStarts, behind_starts, serve_alone, served_by, serves_alone, sole_calls, sole_cells, sole_starts, starts_alone}
use Rattle.run_function.proofs.CellsKept.{are_set}
use Rattle.run_function.proofs.Leads.{Leads, leads_same, leads_then, leads_to}
use Rattle.run_function.proofs.Named.{none_named, set_named, stands_named}
use Rattle.run_function.proofs.StartsAlone.{started_all}
use Rattle.run_function.proofs.Steady.{IsOf}

-- the board, the counts and the reps
abbrev pub cells_in : Course → SoleCells
cells_in s = sole_cells (sole_calls (board_seen s.view) s.tally) s.reps

-- what serving cells comes to
pub record AreServedAlone (line : RoundLine) (by : ℕ) (now : Moment) (p : Places) (xs : List Answer)
    (s s' : Course) : Type 0 where
  pub still : IsOf line s'.wire
  pub are : AreReps s'.reps
  pub leads : Leads s.view s'.view (cells_in s' ≡ serves_alone line by now p.rows p.placements xs (cells_in s))

module _ (line : RoundLine) (by : ℕ) (now : Moment) (p : Places) (x : Answer) (s s' : Course) (are : AreReps s.reps)
    (of : IsOf line s.wire) where
  abbrev jobs : List Job
  jobs = jobs_on p.rows p.placements x.cell

  claims_alone : ClaimsAt by now x.cell jobs s s' → AreServedAlone line by now p (x ∷ []) s s'
  claims_alone h =
      let starts = started_all line by now jobs (claiming h.rep s.view s.wire) (claiming h.after s'.view s'.wire)
      h.ends s.tally s'.tally h.claims h.fine h.counts of in
      let named = stands_named s.reps x.cell h.place h.rep are.apart h.stands in
      let reps_are : s'.reps ≡ with_rep s.reps x.cell h.after =
      h.reps_are ∙ set_named s.reps x.cell h.place h.rep h.after are.apart h.stands in
      record {
        still = starts.still;
        are = subst AreReps (sym h.reps_are)
            (are_set s.reps x.cell h.place h.rep h.after are h.stands starts.cell
            (starts.store (are.stores h.rep (h.place, h.stands.within, sym h.stands.is))));
        leads = leads_to s.view s'.view
            (sole_starts h.after (board_seen s'.view) s'.tally
            ≡ starts_alone line by now jobs (sole_starts h.rep (board_seen s.view) s.tally))
            (cells_in s' ≡ serves_alone line by now p.rows p.placements (x ∷ []) (cells_in s))
            starts.leads
            (λ same.
            ap (sole_cells (sole_calls (board_seen s'.view) s'.tally)) reps_are
            ∙ ap (λ (t : SoleStarts). behind_starts s.reps x.cell t) same
            ∙ sym (ap (served_by line by now jobs x.cell (cells_in s)) named));
      }

  none_alone : HasNoRep s.reps x.cell → s' ≡ s → AreServedAlone line by now p (x ∷ []) s s'
  none_alone none is =
      subst (AreServedAlone line by now p (x ∷ []) s) (sym is)
      (record {
        still = of;
        are = are;
        leads = leads_same s.view (cells_in s ≡ serves_alone line by now p.rows p.placements (x ∷ []) (cells_in s))
            (sym (ap (served_by line by now jobs x.cell (cells_in s)) (none_named s.reps x.cell none)));
      })

  one_served : ServesOne by now p x s s' → AreServedAlone line by now p (x ∷ []) s s'
  one_served h = ⊎_elim (λ c. claims_alone c) (λ none. none_alone none.0 none.1) h

pub served_all : (line : RoundLine) (by : ℕ) (now : Moment) (p : Places) (xs : List Answer) (s s' : Course)
    → AreReps s.reps → IsOf line s.wire
    → Each (ServesOne by now p) xs s s' → AreServedAlone line by now p xs s s'
served_all line by now p [] s s' are of f =
    subst (AreServedAlone line by now p [] s) (sym f) (record
    { still = of; are = are; leads = leads_same s.view (cells_in s ≡ cells_in s) refl })
served_all line by now p (x ∷ xs) s s' are of f =
    let one = one_served line by now p x s f.0 are of f.1 in
    let rest = served_all line by now p xs f.0 s' one.are one.still f.2 in
    let One : Type 0 = cells_in f.0 ≡ serve_alone line by now p.rows p.placements x (cells_in s) in
    let Rest : Type 0 = cells_in s' ≡ serves_alone line by now p.rows p.placements xs (cells_in f.0) in
    record {
      still = rest.still;
      are = rest.are;
      leads = leads_to s.view s'.view (One × Rest) (cells_in s'
          ≡ serves_alone line by now p.rows p.placements (x ∷ xs) (cells_in s))
          (leads_then s.view f.0.view s'.view One Rest one.leads rest.leads)
          (λ both. both.1 ∙ ap (serves_alone line by now p.rows p.placements xs) both.0);
    }
