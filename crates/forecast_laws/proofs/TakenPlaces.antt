-- Each job that has a place has its row there at the end of the round.
use Rattle.std.proofs.Common.{◌≡◌, ◌⊎◌, ℕ, List, [], Option, Some, refl, sym, ap, subst, ◌∙◌, inl, inr, ⊎_elim}
use Rattle.std.specs.List.{Contains}
use Rattle.std.specs.Option.{option_map_or}
use Rattle.auctioneer.specs.Asked.{AreJobs}
use Rattle.auctioneer.specs.Laws.{job_in}
use Rattle.auctioneer.specs.declared.placement.Placement.{Placement}
use Rattle.auctioneer.specs.declared.placement.Placement.TheVariants.{On, NoRoom}
use Rattle.bbs_model.specs.PortView.{rows_seen}
use Rattle.bbs_model.specs.Runs.{state_after_all}
use Rattle.bbs_model.specs.Tables.{find_actual, find_task}
use Rattle.bbs_model.specs.Valid.{IsValid}
use Rattle.bbs_model.specs.declared.command.Command.{Command}
use Rattle.bbs_model.specs.declared.rows.Rows.{Rows}
use Rattle.cell_records.specs.declared.answer.Answer.{Answer}
use Rattle.cell_records.specs.declared.job.Job.{Job}
use Rattle.cell_records.specs.declared.job_name.JobName.{JobName}
use Rattle.cell_records.specs.declared.job_name.JobName.TheVariants as name
use Rattle.cell_rep.specs.Acts.{claim_op}
use Rattle.convergence.specs.declared.report.Report.{Report}
use Rattle.converge_laws.specs.Laws.{after_plan}
use Rattle.converge_laws.proofs.Public.{IsNowClaimed, IsNowRunning, from_filter, inside_map, row-taken, task-taken}
use Rattle.converge_round.specs.Jobs.{jobs, named_job}
use Rattle.converge_round.specs.Places.{placements, unplaced, without_room}
use Rattle.converge_round.specs.Rounds.{IsRound, Standing}
use Rattle.converge_round.proofs.Public.{jobs_differ}
use Rattle.crash_backoff.specs.declared.moment.Moment.{Moment}
use Rattle.diego_names.specs.declared.instance.Instance.{Instance}
use Rattle.diego_names.specs.declared.key.Key.{Key}
use Rattle.forecast_records.specs.declared.verdict.Verdict.TheVariants.{Room}
use Rattle.lrp_records.specs.declared.actual.Actual.{Actual}
use Rattle.lrp_records.specs.declared.presence.Presence.TheVariants.{Ordinary}
use Rattle.lrp_records.specs.declared.state.LrpState.TheVariants as lrp
use Rattle.round_completeness.proofs.Public.{job_found, none-lost}
use Rattle.round_theorem.proofs.Public.{AreLast, auction_rows, kept_inside, last-calls, placed-each, placed-of}
use Rattle.task_records.specs.declared.state.TaskState.TheVariants as task
use Rattle.task_records.specs.declared.task.Task.{Task}
use Rattle.what_if.specs.Plans.{verdict_of_loss}
use Rattle.what_if.specs.Waiting.{displaced, is_displaced, waits}
use Rattle.what_if.specs.declared.site.Site.{Site}
use Rattle.forecast_laws.specs.Losses.{IsTakenOn}
use Rattle.forecast_laws.specs.Plans.{ReadsTheSite}
use Rattle.forecast_laws.specs.Rooms.{DisplacedJobsFindRoom, IsOtherwiseUndisturbed}

-- a row that was UNCLAIMED when its claim was accepted
row_on : (rows : Rows) (key : Key) (cell : List ℕ) (i : Instance) (old : Actual) → old.state ≡ lrp.Unclaimed
    → IsNowClaimed old i cell (find_actual rows key Ordinary) → IsTakenOn rows cell (name.Lrp key)
row_on rows key cell i old waiting c = (
  c.new,
  i,
  c.is,
  ⊎_elim
      (λ fresh. fresh.1)
      (λ own. let bad : lrp.Unclaimed ≡ lrp.Claimed own.1 own.2 = sym waiting ∙ own.3 in absurd cc)
      c.how,
)

task_on : (rows : Rows) (n cell : List ℕ) (i : Instance) (old : Task) → old.state ≡ task.Pending
    → IsNowRunning old i cell (find_task rows n) → IsTakenOn rows cell (name.Task n)
task_on rows n cell i old waiting c = (
  c.new,
  i,
  c.is,
  ⊎_elim
      (λ fresh. fresh.1)
      (λ own. let bad : task.Pending ≡ task.Running own.1 own.2 = sym waiting ∙ own.3 in absurd cc)
      c.how,
)

one_found : {X : Type 0} (o : Option X) (x y : X) → o ≡ Some x → o ≡ Some y → x ≡ y
one_found o x y e f = ap (λ p. option_map_or (λ z. z) p x) (sym e ∙ f)

-- the last commands of a round take each placement
placement_taken : (now : Moment) (rows end : Rows) (list : List Placement) → AreLast now rows end list → (n : JobName)
    → (cell : List ℕ) (j : Job) → Contains list (On n cell) → named_job rows n ≡ Some j → j.job ≡ n
    → IsTakenOn end cell n
placement_taken now rows end list last (name.Lrp key) cell j inside named is =
    let c = last.claims (name.Lrp key) cell j inside named in
    let k = row-taken rows now last.commands last.of_round last.apart last.taken key c.0 c.2.0 cell c.1
    (ap (λ (d : Command). d.op) c.2.1 ∙ ap (λ (m : JobName). claim_op cell m c.2.0) is) in
    let w = last.waits (name.Lrp key) (inside_map job_in list (On (name.Lrp key) cell) inside) in
    let one : k.0 ≡ w.0 = one_found (find_actual rows key Ordinary) k.0 w.0 k.1 w.1 in
    subst (λ (x : Rows). IsTakenOn x cell (name.Lrp key)) (sym last.ends)
    (row_on (state_after_all rows last.commands) key cell c.2.0 k.0 (ap (λ (a : Actual). a.state) one ∙ w.2) k.2)
placement_taken now rows end list last (name.Task n) cell j inside named is =
    let c = last.claims (name.Task n) cell j inside named in
    let k = task-taken rows now last.commands last.of_round last.apart last.taken n c.0 c.2.0 cell c.1
    (ap (λ (d : Command). d.op) c.2.1 ∙ ap (λ (m : JobName). claim_op cell m c.2.0) is) in
    let w = last.waits (name.Task n) (inside_map job_in list (On (name.Task n) cell) inside) in
    let one : k.0 ≡ w.0 = one_found (find_task rows n) k.0 w.0 k.1 w.1 in
    subst (λ (x : Rows). IsTakenOn x cell (name.Task n)) (sym last.ends)
    (task_on (state_after_all rows last.commands) n cell c.2.0 k.0 (ap (λ (t : Task). t.state) one ∙ w.2) k.2)

-- a job's placement is on a cell, or it is left
place_or_left : (list : List Placement) (n : JobName) (p : Placement) → Contains list p → job_in p ≡ n
    → ((cell : List ℕ) × Contains list (On n cell)) ⊎ Contains (unplaced list) n
place_or_left list n (On m cell) inside is = inl (cell, subst (λ (x : JobName). Contains list (On x cell)) is inside)
place_or_left list n (NoRoom m) inside is =
    inr (subst (Contains (unplaced list)) is (kept_inside without_room list (NoRoom m) m inside refl))

module _ (by : ℕ) (now : Moment) (line : ℕ) (s s' : Standing) (r : Report) (h : IsRound by now line s s' r)
    (u : IsOtherwiseUndisturbed by now line s s' r h) (refused : r.refused ≡ []) where
  abbrev A : Rows
  A = after_plan (rows_seen h.first) h.opens.hearing.got now

  abbrev roomy : List Answer
  roomy = h.opening_is.places.roomy

  abbrev list : List Placement
  list = h.opening_is.places.placements

  rows_are : rows_seen h.opened.view ≡ A
  rows_are = sym h.opens.placed.rows_are ∙ auction_rows by now line s s' r h u.alone

  list_is : list ≡ placements A roomy
  list_is = h.opens.placed.placed ∙ ap (λ (x : Rows). placements x roomy) rows_are

  valid : IsValid A
  valid = subst IsValid rows_are h.opens.placed.valid

  differ : AreJobs (jobs A)
  differ = jobs_differ A valid

  last : AreLast now A (rows_seen s'.view) list
  last = last-calls by now line s s' r h u.names u.alone
      (none-lost by now line s s' r h u.names u.answer u.wire) refused

  pub place_taken : (n : JobName) (cell : List ℕ) → Contains list (On n cell) → IsTakenOn (rows_seen s'.view) cell n
  place_taken n cell inside =
      let here : Contains (placements A roomy) (On n cell) = subst (λ ps. Contains ps (On n cell)) list_is inside in
      let j = placed-of roomy (jobs A) differ n (inside_map job_in (placements A roomy) (On n cell) here) in
      let named : named_job A n ≡ Some j.0 = subst (λ (m : JobName). named_job A m ≡ Some j.0) j.2
      (job_found A valid j.0 j.1) in
      placement_taken now A (rows_seen s'.view) list last n cell j.0 inside named j.2

  module _ (site : Site) (lost : List (List ℕ)) (read : ReadsTheSite site lost h.opening_is.places)
      (finds : DisplacedJobsFindRoom) where
    -- where the verdict is room, a displaced job has a place
    pub displaced_place : verdict_of_loss site lost ≡ Room → (j : Job) → Contains (displaced site lost) j
        → (cell : List ℕ) × Contains list (On j.job cell)
    displaced_place room j moved =
        let waiting : Contains (waits site lost) j =
        (from_filter (λ (x : Job). is_displaced site x.job) (waits site lost) j moved).0 in
        let among : Contains (jobs A) j = subst (λ (x : Rows). Contains (jobs x) j)
        (auction_rows by now line s s' r h u.alone) (read.jobs.there j waiting) in
        let p = placed-each roomy (jobs A) differ j among in
        ⊎_elim
        (λ (on : (cell : List ℕ) × Contains list (On j.job cell)). on)
        (λ (left : Contains (unplaced list) j.job).
        absurd (finds by now line s s' r h site lost read room j moved
        (subst (λ ns. Contains ns j.job) (sym h.reports.without_room) left)))
        (place_or_left list j.job p.0 (subst (λ ps. Contains ps p.0) (sym list_is) p.1) p.2)
