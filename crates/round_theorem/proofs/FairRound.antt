-- Where nobody else called, a round is refused for nothing but want of room.
use Rattle.std.proofs.Common.{◌≡◌, ℕ, true, List, [], ◌++◌, map, Option, Some, None, refl, sym, ap, subst, ◌∙◌, ⊎_elim}
use Rattle.std.specs.List.{Contains, flat_map}
use Rattle.std.specs.Option.{option_map_or}
use Rattle.std.proofs.lemmas.List.{map-append}
use Rattle.std.proofs.lemmas.List.Elements.{Contains-append_cases}
use Rattle.auctioneer.specs.Asked.{AreJobs}
use Rattle.auctioneer.specs.Laws.{job_in}
use Rattle.auctioneer.specs.declared.placement.Placement.{Placement}
use Rattle.auctioneer.specs.declared.placement.Placement.TheVariants.{On, NoRoom}
use Rattle.bbs_model.specs.Found.{suspect_in}
use Rattle.bbs_model.specs.PortView.{rows_seen}
use Rattle.bbs_model.specs.Step.{attempt_of}
use Rattle.bbs_model.specs.Valid.{IsValid}
use Rattle.bbs_model.specs.Work.{is_there, work}
use Rattle.bbs_model.specs.declared.command.Command.{Command}
use Rattle.bbs_model.specs.declared.rows.Rows.{Rows}
use Rattle.bbs_model.specs.declared.verdict.BoardRefusal.{BoardRefusal}
use Rattle.bbs_model.proofs.Public.{later_looks, quiet_first}
use Rattle.cell_records.specs.declared.answer.Answer.{Answer}
use Rattle.cell_records.specs.declared.job.Job.{Job}
use Rattle.cell_records.specs.declared.job_name.JobName.{JobName}
use Rattle.cell_records.specs.declared.job_name.JobName.TheVariants as name
use Rattle.cell_rep.specs.Acts.{claim_op}
use Rattle.convergence.specs.Plans.{plan_of_answers}
use Rattle.convergence.specs.Strays.{strays}
use Rattle.convergence.specs.Subjects.{Subject, subject_in}
use Rattle.convergence.specs.declared.report.Report.{Report}
use Rattle.converge_laws.specs.Accepted.{IsOfRound}
use Rattle.converge_laws.specs.Laws.{AreOfRound, after_work, after_plan}
use Rattle.converge_laws.proofs.Public.{run-valid, run-ground, work_of_round, plan_of_round, inside_map, from_map, from_flat_map, subject_for, claim-of_round, claim-about, claim-unsuspected}
use Rattle.converge_round.specs.Askings.{present, StandApart, questions}
use Rattle.converge_round.specs.Jobs.{jobs}
use Rattle.converge_round.specs.Places.{placements, jobs_on, without_room, unplaced, fail_of, fails_of}
use Rattle.converge_round.specs.Reps.{names_of}
use Rattle.converge_round.specs.Rounds.{Standing, IsRound}
use Rattle.converge_round.specs.Stops.{stops_at, so_far}
use Rattle.converge_round.proofs.Public.{from_kept, jobs_differ, open_answers}
use Rattle.crash_backoff.specs.declared.moment.Moment.{Moment}
use Rattle.round_theorem.specs.Alone.{AreClaims, refused_of}
use Rattle.round_theorem.specs.Lacks.{IsLack, AreRefusedForRoom}
use Rattle.round_theorem.proofs.Accounted as account
use Rattle.round_theorem.proofs.Answered.{are-heard, heard_cell, heard_inside}
use Rattle.round_theorem.proofs.ClaimLists.{claims_itself}
use Rattle.round_theorem.proofs.ClaimParts.{claims-part, is-ready, names-stopped}
use Rattle.round_theorem.proofs.ClaimsMade.{about_job}
use Rattle.round_theorem.proofs.FairClaims.{IsRowWaiting, placed-waits, fair-claim, note-of, fair-note}
use Rattle.round_theorem.proofs.FairMoves.{IsFair}
use Rattle.round_theorem.proofs.FairRuns.{fair-run, as_itself, work-refused, plan-refused}
use Rattle.round_theorem.proofs.FairTables.{IsAsBefore, KeepsThere}
use Rattle.round_theorem.proofs.JobsPlaced.{placed-differ}
use Rattle.round_theorem.proofs.Lists.{Differ, differ_pairs, differ_append, one_of_name}
use Rattle.round_theorem.proofs.Parts.{IsPartOf, part_inside, part_differ, kept_part, differ_by}
use Rattle.round_theorem.proofs.PlacesTaken.{apart_by_subjects, all_cells, one_subject, placed_on}
use Rattle.round_theorem.proofs.RoomyCells.{present-there}
use Rattle.round_theorem.proofs.Segments.{refused_append}
use Rattle.round_theorem.proofs.StartTraces.{IsClaimUnder}
use Rattle.round_theorem.proofs.Taken.{rows-looks}
use Rattle.round_theorem.proofs.WholeAccount as parts

no_room : (p : Placement) (m : JobName) → without_room p ≡ Some m → m ≡ job_in p
no_room (On n cell) m e = absurd cc
no_room (NoRoom n) m e = sym (ap (λ (o : Option JobName). option_map_or (λ x. x) o n) e)

left_out : (list : List Placement) (p : Placement) (m : JobName) → Contains list p → without_room p ≡ Some m
    → Contains list (NoRoom m)
left_out list (On n cell) m inside e = absurd cc
left_out list (NoRoom n) m inside e = subst (λ (x : JobName). Contains list (NoRoom x))
    (sym (no_room (NoRoom n) m e)) inside

-- claims and notes by the auction at some rows, on cells that are there
module _ (now : Moment) (A : Rows) (roomy : List Answer) (valid : IsValid A) (n : ℕ) (claims : List Command)
    (are : AreClaims now A (placements A roomy) roomy n claims)
    (cells : Differ (map (λ (x : Answer). x.cell) roomy))
    (under : (c : Command) → Contains claims c → (x : Answer) × Contains roomy x
    × IsClaimUnder now x.cell x.epoch c)
    (there : (x : Answer) → Contains roomy x → is_there A now x.cell x.epoch ≡ true) where
  abbrev list : List Placement
  list = placements A roomy

  abbrev notes : List Command
  notes = fails_of A now (unplaced list)

  abbrev about : List Subject
  about = flat_map (λ (x : Answer). map about_job (jobs_on A list x.cell)) roomy

  js : AreJobs (jobs A)
  js = jobs_differ A valid

  differ : Differ (map job_in list)
  differ = placed-differ roomy (jobs A) js

  part : IsPartOf (map subject_in claims) about
  part = claims-part now A list roomy n claims are

  -- the job of a claim
  claimed_job : (c : Command) → Contains claims c → (j : Job) × (x : Answer) × Contains list (On j.job x.cell)
      × (subject_in c ≡ subject_for j.job)
  claimed_job c inside =
      let at = part_inside (map subject_in claims) about (subject_in c) part (inside_map subject_in claims c inside) in
      let x = from_flat_map (λ (y : Answer). map about_job (jobs_on A list y.cell)) roomy (subject_in c) at in
      let j = from_map about_job (jobs_on A list x.0.cell) (subject_in c) x.2 in
      (j.0, x.0, placed_on A list x.0.cell j.0 j.1, sym j.2)

  claim_about : (c : Command) (cell : List ℕ) (e : ℕ) (u : IsClaimUnder now cell e c) → subject_in c ≡ subject_for u.0
  claim_about c cell e u = ap subject_in u.2 ∙ claim-about u.0 u.1 cell (claim_op cell u.0 u.1)
      (claims_itself u.0 u.1 cell)

  pub waits : (m : JobName) → Contains (map job_in list) m → IsRowWaiting A m
  waits m inside = placed-waits A roomy m valid js inside

  -- the job of a note
  note_job : (c : Command) → Contains notes c → (m : JobName) × Contains list (NoRoom m) × (fail_of A now m ≡ Some c)
  note_job c inside =
      let k = from_kept (fail_of A now) (unplaced list) c inside in
      let p = from_kept without_room list k.0 k.1 in
      (k.0, left_out list p.0 k.0 p.1 p.2, k.2)

  note_about : (m : JobName) (c : Command) → fail_of A now m ≡ Some c → subject_in c ≡ subject_for m
  note_about m c e = let k = note-of A now m c e in ap subject_in k.is ∙ ap subject_for (sym k.name_is)

  notes_differ : Differ (map subject_in notes)
  notes_differ =
      let us : Differ (map subject_for (unplaced list)) =
      part_differ (map subject_for (unplaced list)) (map (λ (p : Placement). subject_for (job_in p)) list)
      (kept_part without_room (λ (p : Placement). subject_for (job_in p)) subject_for
      (λ p m e. ap subject_for (no_room p m e)) list)
      (differ_by job_in (λ (p : Placement). subject_for (job_in p))
      (λ p q e. one_subject (job_in p) (job_in q) e) list differ) in
      part_differ (map subject_in notes) (map subject_for (unplaced list))
      (kept_part (fail_of A now) subject_for subject_in note_about (unplaced list)) us

  pub all_differ : Differ (map subject_in (claims ++ notes))
  all_differ = subst Differ (sym (map-append subject_in claims notes))
      (differ_append (map subject_in claims) (map subject_in notes)
      (part_differ (map subject_in claims) about part (all_cells A list differ roomy cells)) notes_differ
      (λ s t in_s in_t same.
      let c = from_map subject_in claims s in_s in
      let d = from_map subject_in notes t in_t in
      let j = claimed_job c.0 c.1 in
      let m = note_job d.0 d.1 in
      let names : j.0.job ≡ m.0 = one_subject j.0.job m.0 (sym j.3 ∙ c.2 ∙ sym same ∙ sym d.2 ∙ note_about m.0 d.0 m.2)
      in
      let one : On j.0.job j.1.cell ≡ NoRoom m.0 = one_of_name job_in list differ (On j.0.job j.1.cell)
      (NoRoom m.0) j.2 m.1 names in
      absurd cc))

  -- none of them changes a SUSPECT row
  pub unsuspected : (c : Command) → Contains (claims ++ notes) c → suspect_in c.op ≡ None
  unsuspected c inside = ⊎_elim
      (λ here. let u = (under c here).2 in ap (λ (d : Command). suspect_in d.op) u.2 ∙ claim-unsuspected u.0 u.1
      (under c here).0.cell (claim_op (under c here).0.cell u.0 u.1) (claims_itself u.0 u.1 (under c here).0.cell))
      (λ here. let m = note_job c here in ap (λ (d : Command). suspect_in d.op) (note-of A now m.0 c m.2).is)
      (Contains-append_cases claims notes c inside)

  pub of_round : AreOfRound now (claims ++ notes)
  of_round = record {
    ops = λ c inside. ⊎_elim
        (λ here. let u = (under c here).2 in subst (λ (d : Command). IsOfRound d.op) (sym u.2)
        (claim-of_round u.0 u.1 (under c here).0.cell (claim_op (under c here).0.cell u.0 u.1)
        (claims_itself u.0 u.1 (under c here).0.cell)))
        (λ here. let m = note_job c here in subst (λ (d : Command). IsOfRound d.op)
        (sym (note-of A now m.0 c m.2).is) tt)
        (Contains-append_cases claims notes c inside);
    moments = λ c inside. ⊎_elim
        (λ here. ap (λ (d : Command). d.now) (under c here).2.2)
        (λ here. let m = note_job c here in ap (λ (d : Command). d.now) (note-of A now m.0 c m.2).is)
        (Contains-append_cases claims notes c inside);
  }

  fair : (c : Command) → Contains (claims ++ notes) c → (rows : Rows) → IsAsBefore A rows (subject_in c)
      → KeepsThere now A rows → IsFair (attempt_of rows c)
  fair c inside rows h keeps = ⊎_elim
      (λ here.
      let x = under c here in
      let j = claimed_job c here in
      let names : j.0.job ≡ x.2.0 = one_subject j.0.job x.2.0 (sym j.3 ∙ claim_about c x.0.cell x.0.epoch x.2) in
      let w : IsRowWaiting A x.2.0 = subst (IsRowWaiting A) names
      (waits j.0.job (inside_map job_in list (On j.0.job j.1.cell) j.2)) in
      let cell : is_there rows now x.0.cell x.2.1.epoch ≡ true =
      keeps x.0.cell x.2.1.epoch ∙ ap (λ (e : ℕ). is_there A now x.0.cell e) x.2.3 ∙ there x.0 x.1 in
      subst (λ (d : Command). IsFair (attempt_of rows d)) (sym x.2.2)
      (fair-claim A rows now x.2.0 x.2.1 x.0.cell w (subst (IsAsBefore A rows) (claim_about c x.0.cell x.0.epoch x.2) h)
      cell))
      (λ here.
      let m = note_job c here in
      let k = note-of A now m.0 c m.2 in
      let w : IsRowWaiting A (name.Lrp k.key) = subst (IsRowWaiting A) k.name_is
      (waits m.0 (inside_map job_in list (NoRoom m.0) m.1)) in
      subst (λ (d : Command). IsFair (attempt_of rows d)) (sym k.is)
      (fair-note A rows now k.key w (subst (IsAsBefore A rows) (ap subject_in k.is) h)))
      (Contains-append_cases claims notes c inside)

  pub claims-refused : AreRefusedForRoom A (claims ++ notes)
  claims-refused = fair-run now A A (claims ++ notes) (apart_by_subjects (claims ++ notes) all_differ unsuspected)
      of_round fair (λ cell epoch. refl) (λ c inside. as_itself A (subject_in c))

module _ (by : ℕ) (now : Moment) (line : ℕ) (s s' : Standing) (r : Report) (h : IsRound by now line s s' r)
    (apart : StandApart (names_of s.reps)) (none : r.foreign ≡ 0) where
  abbrev R : Rows
  R = rows_seen h.first

  abbrev got : List Answer
  got = h.opens.hearing.got

  abbrev roomy : List Answer
  roomy = h.opening_is.places.roomy

  abbrev A : Rows
  A = after_plan R got now

  first_rows : rows_seen h.opens.first ≡ R
  first_rows = rows-looks h.first h.opens.first h.opens.looks
      (quiet_first h.first h.opens.first s'.view (later_looks h.first h.opens.first h.opens.looks)
      (parts.first_later by now line s s' r h) (account.quiet by now line s s' r h none))

  valid : IsValid R
  valid = subst IsValid first_rows h.opens.heard.valid

  valid_work : IsValid (after_work R now)
  valid_work = run-valid R (work R now) valid

  pub valid_plan : IsValid A
  valid_plan = run-valid (after_work R now) (plan_of_answers (after_work R now) got now) valid_work

  apart_later : StandApart (names_of h.opened.reps)
  apart_later = subst StandApart (sym (names-stopped (strays (rows_seen h.opens.third) got)
      (so_far (stops_at h.opens.wire s.reps) []) (so_far (stops_at h.opened.wire h.opened.reps) h.opens.stops.stopped)
      h.opens.stopped.each)) apart

  pub roomy_there : (y : Answer) → Contains roomy y → is_there A now y.cell y.epoch ≡ true
  roomy_there y inside =
      let q = parts.roomy_cell by now line s s' r h y inside in
      let heard = are-heard s.reps (present (rows_seen h.opens.first) now) (questions s.wire [])
      (questions h.opens.wire got) h.opens.heard.got in
      let c = heard.from q.answer (subst (λ xs. Contains xs q.answer) heard.is q.inside) in
      let cells : y.cell ≡ c.0.cell = heard_cell h.opened.reps q.answer.cell q.answer.epoch y q.heard ∙ heard_cell
      s.reps c.0.cell c.0.epoch q.answer c.2 in
      let epochs : y.epoch ≡ c.0.epoch = q.heard.epoch_is ∙ c.2.epoch_is in
      (run-ground (after_work R now) now (plan_of_answers (after_work R now) got now)
      (plan_of_round (after_work R now) got now valid_work)).there y.cell y.epoch
      ∙ (run-ground R now (work R now) (work_of_round R now valid)).there y.cell y.epoch
      ∙ ap (λ (n : List ℕ). is_there R now n y.epoch) cells ∙ ap (λ (e : ℕ). is_there R now c.0.cell e) epochs
      ∙ ap (λ (x : Rows). is_there x now c.0.cell c.0.epoch) (sym first_rows) ∙ present-there
      (rows_seen h.opens.first) now c.0 h.opens.heard.valid c.1

  pub under : (c : Command) → Contains (parts.claims by now line s s' r h) c
      → (x : Answer) × Contains roomy x × IsClaimUnder now x.cell x.epoch c
  under = (parts.served by now line s s' r h).under (λ y inside.
      let q = parts.roomy_cell by now line s s' r h y inside in
      is-ready h.opened.reps y apart_later (heard_inside h.opened.reps q.answer.cell q.answer.epoch y q.heard))

  pub are : AreClaims now A (placements A roomy) roomy (parts.served by now line s s' r h).missing
      (parts.claims by now line s s' r h)
  are = subst (λ (ps : List Placement). AreClaims now A ps roomy (parts.served by now line s s' r h).missing
      (parts.claims by now line s s' r h)) (account.places_are by now line s s' r h none)
      (subst (λ (x : Rows). AreClaims now x h.opening_is.places.placements roomy
      (parts.served by now line s s' r h).missing (parts.claims by now line s s' r h))
      (account.places_rows by now line s s' r h none)
      (parts.served by now line s s' r h).are)

  pub cells_differ : Differ (map (λ (x : Answer). x.cell) roomy)
  cells_differ = differ_pairs (map (λ (x : Answer). x.cell) roomy) (open_answers
      (rows_seen h.opened.view) h.opened.reps got roomy h.opens.heard.apart h.opens.placed.open_are).differ

  last : AreRefusedForRoom A (parts.claims by now line s s' r h ++ fails_of A now (unplaced (placements A roomy)))
  last = claims-refused now A roomy valid_plan (parts.served by now line s s' r h).missing
      (parts.claims by now line s s' r h) are cells_differ under roomy_there

  pub alone-refused : (x : Command × BoardRefusal) → Contains r.refused x → IsLack x.1
  alone-refused x inside =
      let W : List Command = work R now in
      let P : List Command = plan_of_answers (after_work R now) got now in
      let L : List Command = parts.claims by now line s s' r h ++ fails_of A now (unplaced (placements A roomy)) in
      let all : r.refused ≡ refused_of R (W ++ (P ++ L)) =
      h.reports.refused ∙ (account.turns by now line s s' r h none).refused ∙ ap (refused_of R)
      (account.calls_are by now line s s' r h none) in
      let here : Contains (refused_of R W ++ refused_of (after_work R now) (P ++ L)) x =
      subst (λ xs. Contains xs x) (all ∙ refused_append R W (P ++ L)) inside in
      ⊎_elim
      (λ first. work-refused R now valid x first)
      (λ rest. ⊎_elim
      (λ second. plan-refused (after_work R now) got now valid_work x second)
      (λ third. last x third)
      (Contains-append_cases (refused_of (after_work R now) P) (refused_of A L) x
      (subst (λ xs. Contains xs x) (refused_append (after_work R now) P L) rest)))
      (Contains-append_cases (refused_of R W) (refused_of (after_work R now) (P ++ L)) x here)
