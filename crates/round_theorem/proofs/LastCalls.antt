-- What a round calls last where nobody else calls: if nothing is lost or refused, a claim of each placement.
use Rattle.std.proofs.Common.{◌≡◌, ℕ, List, [], ◌∷◌, ◌++◌, map, Some, sym, ap, subst, ◌∙◌, arith, inl, inr, ⊎_elim}
use Rattle.std.specs.List.{Contains}
use Rattle.std.proofs.lemmas.List.Elements.{Contains-append_left, Contains-append_right}
use Rattle.auctioneer.specs.Asked.{AreJobs}
use Rattle.auctioneer.specs.Laws.{job_in}
use Rattle.auctioneer.specs.declared.placement.Placement.{Placement}
use Rattle.auctioneer.specs.declared.placement.Placement.TheVariants.{On}
use Rattle.bbs_model.specs.PortView.{rows_seen}
use Rattle.bbs_model.specs.Runs.{state_after_all}
use Rattle.bbs_model.specs.Valid.{IsValid}
use Rattle.bbs_model.specs.Work.{work}
use Rattle.bbs_model.specs.declared.command.Command.{Command}
use Rattle.bbs_model.specs.declared.rows.Rows.{Rows}
use Rattle.cell_records.specs.declared.answer.Answer.{Answer}
use Rattle.cell_records.specs.declared.job.Job.{Job}
use Rattle.cell_records.specs.declared.job_name.JobName.{JobName}
use Rattle.convergence.specs.Plans.{plan_of_answers}
use Rattle.convergence.specs.declared.report.Report.{Report}
use Rattle.converge_laws.specs.Accepted.{AreAccepted, AreApart}
use Rattle.converge_laws.specs.Laws.{AreOfRound, after_plan, after_work}
use Rattle.converge_laws.proofs.Public.{first_or_rest, inside_first, inside_rest}
use Rattle.converge_round.specs.Askings.{StandApart}
use Rattle.converge_round.specs.Jobs.{jobs, named_job}
use Rattle.converge_round.specs.Places.{fails_of, jobs_on, placements, unplaced}
use Rattle.converge_round.specs.Reps.{names_of}
use Rattle.converge_round.specs.Rounds.{IsRound, Standing}
use Rattle.converge_round.specs.Starts.{IsClaim}
use Rattle.converge_round.proofs.Public.{jobs_differ}
use Rattle.crash_backoff.specs.declared.moment.Moment.{Moment}
use Rattle.round_theorem.specs.Alone.{AreClaims, AreClaimsOn, refused_of}
use Rattle.round_theorem.proofs.Accounted as account
use Rattle.round_theorem.proofs.AloneRows.{all_accepted, second_empty}
use Rattle.round_theorem.proofs.FairClaims.{IsRowWaiting}
use Rattle.round_theorem.proofs.FairRound as fair
use Rattle.round_theorem.proofs.JobsPlaced.{placed-there}
use Rattle.round_theorem.proofs.PlacesTaken.{apart_by_subjects, goes_there}
use Rattle.round_theorem.proofs.Segments.{after_append, refused_append}
use Rattle.round_theorem.proofs.WholeAccount as parts

-- where none is missing, each job has its claim
claim_on_each : (now : Moment) (cell : List ℕ) (jobs : List Job) (n : ℕ) (cs : List Command) → n ≡ 0
    → AreClaimsOn now cell jobs n cs → (j : Job) → Contains jobs j
    → (c : Command) × Contains cs c × IsClaim now cell j c
claim_on_each now cell [] n cs whole h j inside = absurd (omega (arith, inside.1))
claim_on_each now cell (job ∷ jobs) n cs whole (inl h) j inside = absurd (omega (arith, whole, h.1))
claim_on_each now cell (job ∷ jobs) n cs whole (inr h) j inside =
    ⊎_elim
    (λ (is : job ≡ j). (
      h.0,
      subst (λ xs. Contains xs h.0) (sym h.2) (inside_first h.0 h.1),
      subst (λ (x : Job). IsClaim now cell x h.0) is h.3,
    ))
    (λ (rest : Contains jobs j).
    let k = claim_on_each now cell jobs n h.1 whole h.4 j rest in
    (k.0, subst (λ xs. Contains xs k.0) (sym h.2) (inside_rest k.0 h.0 h.1 k.1), k.2))
    (first_or_rest j job jobs inside)

claim_each : (now : Moment) (rows : Rows) (list : List Placement) (xs : List Answer) (n : ℕ) (cs : List Command)
    → n ≡ 0 → AreClaims now rows list xs n cs → (x : Answer) → Contains xs x → (j : Job)
    → Contains (jobs_on rows list x.cell) j → (c : Command) × Contains cs c × IsClaim now x.cell j c
claim_each now rows list [] n cs whole h x inside j goes = absurd (omega (arith, inside.1))
claim_each now rows list (y ∷ xs) n cs whole h x inside j goes =
    let here : h.0 ≡ 0 = omega (arith, whole, h.4) in
    let later : h.1 ≡ 0 = omega (arith, whole, h.4) in
    ⊎_elim
    (λ (is : y ≡ x).
    let k = claim_on_each now y.cell (jobs_on rows list y.cell) h.0 h.2 here h.6 j
    (subst (λ (z : Answer). Contains (jobs_on rows list z.cell) j) (sym is) goes) in (
      k.0,
      subst (λ ys. Contains ys k.0) (sym h.5) (Contains-append_left h.2 h.3 k.0 k.1),
      subst (λ (z : Answer). IsClaim now z.cell j k.0) is k.2,
    ))
    (λ (rest : Contains xs x).
    let k = claim_each now rows list xs h.1 h.3 later h.7 x rest j goes in
    (k.0, subst (λ ys. Contains ys k.0) (sym h.5) (Contains-append_right h.2 h.3 k.0 k.1), k.2))
    (first_or_rest x y xs inside)

-- the last commands of a round: apart, accepted from the rows of its auction on, which they lead to those of its end,
-- and a claim of each placement among them
pub record AreLast (now : Moment) (rows end : Rows) (list : List Placement) : Type 0 where
  pub commands : List Command
  pub of_round : AreOfRound now commands
  pub apart : AreApart commands
  pub taken : AreAccepted rows commands
  pub ends : end ≡ state_after_all rows commands
  pub claims : (n : JobName) (cell : List ℕ) (j : Job) → Contains list (On n cell) → named_job rows n ≡ Some j
      → (c : Command) × Contains commands c × IsClaim now cell j c
  pub waits : (n : JobName) → Contains (map job_in list) n → IsRowWaiting rows n

module _ (by : ℕ) (now : Moment) (line : ℕ) (s s' : Standing) (r : Report) (h : IsRound by now line s s' r)
    (names : StandApart (names_of s.reps)) (alone : r.foreign ≡ 0) (lost : r.lost ≡ 0) (refused : r.refused ≡ []) where
  abbrev R : Rows
  R = rows_seen h.first

  abbrev got : List Answer
  got = h.opens.hearing.got

  abbrev roomy : List Answer
  roomy = h.opening_is.places.roomy

  abbrev A : Rows
  A = after_plan R got now

  abbrev list : List Placement
  list = placements A roomy

  abbrev claims : List Command
  claims = parts.claims by now line s s' r h

  abbrev missing : ℕ
  missing = (parts.served by now line s s' r h).missing

  abbrev L : List Command
  L = claims ++ fails_of A now (unplaced list)

  abbrev P : List Command
  P = plan_of_answers (after_work R now) got now

  valid : IsValid A
  valid = fair.valid_plan by now line s s' r h names alone

  are : AreClaims now A list roomy missing claims
  are = fair.are by now line s s' r h names alone

  whole : missing ≡ 0
  whole = omega (arith, account.missing_lost by now line s s' r h, lost)

  accepted : AreAccepted A L
  accepted =
      let all : refused_of R (work R now ++ (P ++ L)) ≡ [] =
      sym (ap (refused_of R) (account.calls_are by now line s s' r h alone))
      ∙ sym (h.reports.refused ∙ (account.turns by now line s s' r h alone).refused) ∙ refused in
      let rest : refused_of (after_work R now) (P ++ L) ≡ [] =
      second_empty (refused_of R (work R now)) (refused_of (after_work R now) (P ++ L))
      (sym (refused_append R (work R now) (P ++ L)) ∙ all) in
      all_accepted A L (second_empty (refused_of (after_work R now) P) (refused_of A L)
      (sym (refused_append (after_work R now) P L) ∙ rest))

  ends : rows_seen s'.view ≡ state_after_all A L
  ends = (account.turns by now line s s' r h alone).rows_are
      ∙ ap (state_after_all R) (account.calls_are by now line s s' r h alone)
      ∙ after_append R (work R now) (P ++ L) ∙ after_append (after_work R now) P L

  claimed : (n : JobName) (cell : List ℕ) (j : Job) → Contains list (On n cell) → named_job A n ≡ Some j
      → (c : Command) × Contains L c × IsClaim now cell j c
  claimed n cell j inside named =
      let differ : AreJobs (jobs A) = jobs_differ A valid in
      let x = placed-there roomy (jobs A) differ n cell inside in
      let here : Contains list (On n x.0.cell) = subst (λ (m : List ℕ). Contains list (On n m)) (sym x.2) inside in
      let c = claim_each now A list roomy missing claims whole are x.0 x.1 j
      (goes_there A list x.0.cell n j here named) in (
        c.0,
        Contains-append_left claims (fails_of A now (unplaced list)) c.0 c.1,
        subst (λ (m : List ℕ). IsClaim now m j c.0) x.2 c.2,
      )

  pub last-calls : AreLast now A (rows_seen s'.view) h.opening_is.places.placements
  last-calls =
      let under = fair.under by now line s s' r h names alone in
      let cells = fair.cells_differ by now line s s' r h names alone in
      let there = fair.roomy_there by now line s s' r h names alone in
      subst (AreLast now A (rows_seen s'.view)) (sym (account.places_are by now line s s' r h alone))
      (record {
        commands = L;
        of_round = fair.of_round now A roomy valid missing claims are cells under there;
        apart = apart_by_subjects L (fair.all_differ now A roomy valid missing claims are cells under there)
            (fair.unsuspected now A roomy valid missing claims are cells under there);
        taken = accepted;
        ends = ends;
        claims = claimed;
        waits = fair.waits now A roomy valid missing claims are cells under there;
      })
