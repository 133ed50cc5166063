-- A complete round leaves all as it should be.
use Rattle.std.proofs.Common.{◌≡◌, ℕ, ◌+◌, ◌-◌, ◌^◌, min, true, List, [], length, map, filter_map, sym, ap, subst, ◌∙◌, arith}
use Rattle.std.specs.List.{Contains, flat_map}
use Rattle.auctioneer.specs.Asked.{AreJobs}
use Rattle.auctioneer.specs.declared.placement.Placement.{Placement}
use Rattle.cell_records.specs.declared.answer.Answer.{Answer}
use Rattle.cell_records.specs.declared.job_name.JobName.{JobName}
use Rattle.cell_records.specs.declared.job_name.JobName.TheVariants as name
use Rattle.cell_rep.specs.Acts.{claim_op}
use Rattle.cell_rep.specs.Reps.{answer_of}
use Rattle.cell_rep.specs.declared.rep.CellRep.{CellRep}
use Rattle.crash_backoff.specs.declared.moment.Moment.{Moment}
use Rattle.diego_names.specs.declared.instance.Instance.{Instance}
use Rattle.bbs_model.specs.Found.{suspect_in}
use Rattle.bbs_model.specs.PortView.{PortView, rows_seen, Looks, IsQuiet}
use Rattle.bbs_model.specs.Runs.{state_after_all}
use Rattle.bbs_model.specs.Valid.{IsValid}
use Rattle.bbs_model.specs.Work.{is_there, work}
use Rattle.bbs_model.specs.declared.command.Command.{Command}
use Rattle.bbs_model.specs.declared.rows.Rows.{Rows}
use Rattle.bbs_model.proofs.Public.{quiet_first, quiet_second}
use Rattle.convergence.specs.Strays.{strays}
use Rattle.convergence.specs.Subjects.{subject_in}
use Rattle.convergence.specs.declared.report.Report.{Report}
use Rattle.converge_laws.specs.Accepted.{AreAccepted, AreApart}
use Rattle.converge_laws.specs.Converged.{IsConverged}
use Rattle.converge_laws.specs.Laws.{after_work, after_plan}
use Rattle.converge_laws.specs.Stages.{HaveAnswered, IsClaimOf, AreWithout, PlacesAll}
use Rattle.converge_laws.proofs.Public.{run-valid, answered-ground, work-ground, work-leaves_suspicions, plan-ground, round-converges, claim-unsuspected}
use Rattle.converge_round.specs.Askings.{present, StandApart, questions}
use Rattle.converge_round.specs.Callings.{Calling, IsNoted}
use Rattle.converge_round.specs.Each.{Each}
use Rattle.converge_round.specs.Jobs.{jobs}
use Rattle.converge_round.specs.Places.{placements, jobs_on, unplaced, fails_of}
use Rattle.converge_round.specs.Reps.{names_of}
use Rattle.converge_round.specs.Rounds.{Standing, IsRound}
use Rattle.converge_round.specs.Stops.{stops_at, so_far}
use Rattle.converge_round.proofs.Public.{jobs_differ, open_answers}
use Rattle.round_theorem.specs.Complete.{IsComplete, HasTakenAll}
use Rattle.round_theorem.proofs.Answered.{are-heard, have-answered, heard_cell, heard_inside, answers_differ}
use Rattle.round_theorem.proofs.CellsServed.{AreServed, cells-served}
use Rattle.round_theorem.proofs.ClaimLists.{claims_itself}
use Rattle.round_theorem.proofs.ClaimsMade.{about_job}
use Rattle.round_theorem.proofs.JobsPlaced.{placed-differ}
use Rattle.round_theorem.proofs.Lists.{Differ, differ_pairs}
use Rattle.round_theorem.proofs.PlacesTaken.{apart_by_subjects, all_cells}
use Rattle.round_theorem.proofs.RoomyCells.{IsRoomy, is-roomy, heard_named, present-there}
use Rattle.round_theorem.proofs.Starts.{in_course}
use Rattle.round_theorem.proofs.StopsDone.{AreGone, are-gone}
use Rattle.round_theorem.proofs.Taken.{AreTaken, rows-looks, taken-each}
use Rattle.round_theorem.proofs.Waiting.{row-waits, task-waits, waiting-claimed}
use Rattle.round_theorem.proofs.Whole.{takes-all, fg, gz, none, quiet-f, rows-b, rows-d, rows-e, rows-f}

none_left : (a b : ℕ) → min (a + b) (2 ^ 64 - 1) ≡ 0 → (a ≡ 0) × (b ≡ 0)
none_left a b e = (omega (arith, e), omega (arith, e))

module _ (by : ℕ) (now : Moment) (line : ℕ) (s s' : Standing) (r : Report) (h : IsRound by now line s s' r)
    (apart : StandApart (names_of s.reps)) (complete : IsComplete r) where
  abbrev rows : Rows
  rows = rows_seen h.first

  abbrev got : List Answer
  got = h.opens.hearing.got

  abbrev before : List Answer
  before = filter_map answer_of s.reps

  abbrev left : List Answer
  left = filter_map answer_of h.opened.reps

  abbrev after : List Answer
  after = filter_map answer_of h.served.reps

  abbrev planned : Rows
  planned = after_plan rows got now

  abbrev all : HasTakenAll by now line s s' r h
  all = takes-all by now line s s' r h complete

  abbrev first_rows : rows_seen h.opens.first ≡ rows
  first_rows = rows-b by now line s s' r h complete

  lost : (h.opening_is.lost ≡ 0) × (h.noted.tally.lost ≡ 0)
  lost = none_left h.opening_is.lost h.noted.tally.lost (sym h.reports.lost ∙ complete.lost)

  lost_before : (h.opens.hearing.asked - length got ≡ 0) × (h.opens.stops.lost ≡ 0)
  lost_before = none_left (h.opens.hearing.asked - length got) h.opens.stops.lost (sym h.opens.lost_is ∙ lost.0)

  valid : IsValid rows
  valid = subst IsValid first_rows h.opens.heard.valid

  answered : HaveAnswered rows got before now
  answered = subst (λ (x : Rows). HaveAnswered x got before now) first_rows
      (have-answered s.reps (rows_seen h.opens.first) now s.wire h.opens.wire got h.opens.heard.got apart
      (omega (arith, lost_before.0, h.opens.heard.asked)))

  -- the stops
  rows_third : rows_seen h.opens.third ≡ planned
  rows_third = rows-e by now line s s' r h complete ∙ rows-d by now line s s' r h complete

  gone : AreGone (strays (rows_seen h.opens.third) got) s.reps h.opened.reps
  gone = are-gone (strays (rows_seen h.opens.third) got) (so_far (stops_at h.opens.wire s.reps) [])
      (so_far (stops_at h.opened.wire h.opened.reps) h.opens.stops.stopped) apart
      (omega (arith, lost_before.1, h.opens.stopped.lost)) h.opens.stopped.each

  without : AreWithout (strays planned got) before left
  without = subst (λ (x : Rows). AreWithout (strays x got) before left) rows_third gone.without

  apart_later : StandApart (names_of h.opened.reps)
  apart_later = subst StandApart (sym gone.names) apart

  -- the rows and the places of the auction
  abbrev places_rows : Rows
  places_rows = rows_seen h.opened.view

  rows_opened : places_rows ≡ planned
  rows_opened = rows-f by now line s s' r h complete ∙ rows-d by now line s s' r h complete

  abbrev roomy : List Answer
  roomy = h.opening_is.places.roomy

  all_placed : unplaced h.opening_is.places.placements ≡ []
  all_placed = sym h.reports.without_room ∙ complete.placed

  -- no notes are called
  no_notes : h.noted ≡ in_course h.served
  no_notes = subst (λ xs. Each (IsNoted by) (fails_of h.opening_is.places.rows now xs) (in_course h.served) h.noted)
      all_placed h.notes

  roomy_cell : (y : Answer) → Contains roomy y → IsRoomy places_rows h.opened.reps got y
  roomy_cell y inside = is-roomy places_rows h.opened.reps got roomy y h.opens.placed.open_are inside

  served : AreServed by now h.opening_is.places roomy h.opened h.served
  served = cells-served by now h.opening_is.places roomy h.opened h.served apart_later
      (λ y inside.
      let q = roomy_cell y inside in
      subst (Contains (names_of h.opened.reps)) (sym (heard_cell h.opened.reps q.answer.cell q.answer.epoch y q.heard))
      (heard_named h.opened.reps q.answer.cell q.answer.epoch y q.heard))
      (ap (λ (x : Calling). x.tally.lost) (sym no_notes) ∙ lost.1)
      (ap (λ (x : Calling). x.tally.refused) (sym no_notes) ∙ none by now line s s' r h complete)
      h.serves

  abbrev cs : List Command
  cs = served.claims

  abbrev quiet_g : IsQuiet h.served.view s'.view
  quiet_g = quiet_second h.opened.view h.served.view s'.view (fg by now line s s' r h complete).later
      (gz by now line s s' r h complete).later (quiet-f by now line s s' r h complete)

  taken : AreTaken places_rows cs (rows_seen h.served.view)
  taken = taken-each by cs (in_course h.opened) (in_course h.served) served.notes
      (quiet_first h.opened.view h.served.view s'.view (fg by now line s s' r h complete).later
      (gz by now line s s' r h complete).later (quiet-f by now line s s' r h complete))
      (ap (λ (x : Calling). x.tally.refused) (sym no_notes) ∙ none by now line s s' r h complete)

  accepted : AreAccepted planned cs
  accepted = subst (λ (x : Rows). AreAccepted x cs) rows_opened taken.accepted

  looks_end : Looks h.served.view s'.view
  looks_end = subst (λ (v : PortView). Looks v s'.view) (ap (λ (x : Calling). x.view) no_notes) h.looks_last

  rows_end : rows_seen s'.view ≡ state_after_all planned cs
  rows_end = rows-looks h.served.view s'.view looks_end quiet_g ∙ taken.rows_are ∙ ap
      (λ (x : Rows). state_after_all x cs) rows_opened

  stores : r.stores.value ≡ after
  stores = h.reports.stores ∙ ap (λ (rs : List CellRep). filter_map answer_of rs) h.reps_are

  moments : (c : Command) → Contains cs c → c.now ≡ now
  moments c inside = ap (λ (x : Command). x.now) (served.named c inside).claims.is

  differ_jobs : AreJobs (jobs places_rows)
  differ_jobs = jobs_differ places_rows h.opens.placed.valid

  -- the lists of jobs by the rows and the placements themselves
  subjects : map subject_in cs ≡ flat_map (λ (x : Answer).
      map about_job (jobs_on places_rows (placements places_rows roomy) x.cell)) roomy
  subjects = served.subjects
      ∙ ap (λ (x : Rows). flat_map (λ (y : Answer). map about_job (jobs_on x h.opening_is.places.placements y.cell))
      roomy) h.opens.placed.rows_are
      ∙ ap (λ (ps : List Placement). flat_map (λ (y : Answer). map about_job (jobs_on places_rows ps y.cell)) roomy)
      h.opens.placed.placed

  apart_claims : AreApart cs
  apart_claims = apart_by_subjects cs (subst Differ (sym subjects)
      (all_cells places_rows (placements places_rows roomy) (placed-differ roomy (jobs places_rows) differ_jobs) roomy
      (differ_pairs (map (λ (x : Answer). x.cell) roomy) (open_answers places_rows h.opened.reps got roomy
      h.opens.heard.apart h.opens.placed.open_are).differ)))
      (λ c inside.
      let n = (served.named c inside) in
      ap (λ (d : Command). suspect_in d.op) n.claims.is
      ∙ claim-unsuspected n.claims.job n.claims.instance n.answer.cell
      (claim_op n.answer.cell n.claims.job n.claims.instance)
      (claims_itself n.claims.job n.claims.instance n.answer.cell))

  -- which cells are there
  valid_worked : IsValid (after_work rows now)
  valid_worked = run-valid rows (work rows now) valid

  answered_worked : HaveAnswered (after_work rows now) got before now
  answered_worked = answered-ground rows (after_work rows now) got before now
      (work-ground rows now valid all.worked) answered

  there_later : (cell : List ℕ) (epoch : ℕ) → is_there planned now cell epoch ≡ is_there rows now cell epoch
  there_later cell epoch =
      (plan-ground (after_work rows now) got before now valid_worked
      (work-leaves_suspicions rows now valid all.worked) answered_worked all.planned).there cell epoch
      ∙ (work-ground rows now valid all.worked).there cell epoch

  got_there : (x : Answer) → Contains got x → is_there rows now x.cell x.epoch ≡ true
  got_there x inside =
      let heard = are-heard s.reps (present (rows_seen h.opens.first) now) (questions s.wire [])
      (questions h.opens.wire got) h.opens.heard.got in
      let c = heard.from x (subst (λ xs. Contains xs x) heard.is inside) in
      let there = present-there (rows_seen h.opens.first) now c.0 h.opens.heard.valid c.1 in
      ap (λ (n : List ℕ). is_there rows now n x.epoch) (heard_cell s.reps c.0.cell c.0.epoch x c.2) ∙ ap
      (λ (e : ℕ). is_there rows now c.0.cell e) c.2.epoch_is
      ∙ ap (λ (y : Rows). is_there y now c.0.cell c.0.epoch) (sym first_rows) ∙ there

  claims_there : (c : Command) → Contains cs c → (j : JobName) × (i : Instance) × (cell : List ℕ)
      × IsClaimOf j i cell c.op × (is_there planned now cell i.epoch ≡ true)
  claims_there c inside =
      let n = served.named c inside in
      let q = roomy_cell n.served n.among in
      let one : n.answer ≡ n.served = answers_differ h.opened.reps apart_later n.answer n.served n.inside
      (heard_inside h.opened.reps q.answer.cell q.answer.epoch n.served q.heard) n.cells in
      let cells : n.answer.cell ≡ q.answer.cell = n.cells ∙ heard_cell h.opened.reps q.answer.cell q.answer.epoch
      n.served q.heard in
      let epochs : n.claims.instance.epoch ≡ q.answer.epoch =
      n.claims.epoch_is ∙ ap (λ (x : Answer). x.epoch) one ∙ q.heard.epoch_is in (
        n.claims.job,
        n.claims.instance,
        n.answer.cell,
        subst (λ (d : Command). IsClaimOf n.claims.job n.claims.instance n.answer.cell d.op) (sym n.claims.is)
            (claims_itself n.claims.job n.claims.instance n.answer.cell),
        there_later n.answer.cell n.claims.instance.epoch ∙ ap
            (λ (m : List ℕ). is_there rows now m n.claims.instance.epoch) cells
            ∙ ap (λ (e : ℕ). is_there rows now q.answer.cell e) epochs ∙ got_there q.answer q.inside,
      )

  none_unplaced : unplaced (placements places_rows roomy) ≡ []
  none_unplaced = ap unplaced (sym h.opens.placed.placed) ∙ all_placed

  places_all : PlacesAll places_rows now cs
  places_all = record {
    claims = λ c inside.
        let p = claims_there c inside in
        (p.0, p.1, p.2, p.3, subst (λ (x : Rows). is_there x now p.2 p.1.epoch ≡ true) (sym rows_opened) p.4);
    rows_placed = λ key a is state wanted. waiting-claimed places_rows roomy cs differ_jobs none_unplaced subjects
        (name.Lrp key) (row-waits places_rows key a wanted is state);
    tasks_placed = λ n t is state. waiting-claimed places_rows roomy cs differ_jobs none_unplaced subjects (name.Task n)
        (task-waits places_rows n t is state);
  }

  pub complete-converges : IsConverged (rows_seen s'.view) r.stores.value now
  complete-converges =
      subst (λ (x : Rows). IsConverged x r.stores.value now) (sym rows_end)
      (subst (λ (xs : List Answer). IsConverged (state_after_all planned cs) xs now) (sym stores)
      (round-converges rows got before left after now cs valid answered all.worked all.planned without apart_claims
      accepted moments
      (subst (λ (x : Rows). PlacesAll x now cs) rows_opened places_all) served.adds))
