-- A round in which nobody else calls is one that is alone.
use Rattle.std.proofs.Common.{◌≡◌, ℕ, ◌+◌, ◌-◌, ◌^◌, min, List, [], length, filter_map, Some, refl, sym, ap, subst, ◌∙◌}
use Rattle.bbs_model.specs.PortView.{IsLater, IsQuiet, PortView, rows_seen}
use Rattle.bbs_model.specs.Work.{work}
use Rattle.bbs_model.specs.declared.rows.Rows.{Rows}
use Rattle.cell_records.specs.declared.answer.Answer.{Answer}
use Rattle.cell_rep.specs.Reps.{answer_of}
use Rattle.cell_rep.specs.declared.rep.CellRep.{CellRep}
use Rattle.convergence.specs.Plans.{plan_of_answers}
use Rattle.convergence.specs.Strays.{strays}
use Rattle.convergence.specs.declared.report.Report.{Report}
use Rattle.converge_round.specs.Askings.{present, questions}
use Rattle.converge_round.specs.Callings.{calling}
use Rattle.converge_round.specs.Phases.{fails_in}
use Rattle.converge_round.specs.Places.{fails_of, placements, unplaced}
use Rattle.converge_round.specs.Rounds.{IsRound, Standing, standing}
use Rattle.converge_round.specs.Sendings.{wire_at}
use Rattle.converge_round.specs.Stops.{so_far, stops_at}
use Rattle.converge_round.specs.Tallies.{no_calls}
use Rattle.converge_round.specs.declared.placing.Places.{Places}
use Rattle.crash_backoff.specs.declared.moment.Moment.{Moment}
use Rattle.phase_runs.specs.RoundMarks.{round_ends}
use Rattle.phase_runs.specs.Rounds.{RoundOf}
use Rattle.scenario_lines.specs.declared.script.RoundLine.{RoundLine}
use Rattle.run_function.specs.Boards.{SoleBoard, board_seen, rows_on}
use Rattle.run_function.specs.RoundLaws.{AreReps}
use Rattle.run_function.specs.Rounds.{SoleCalls, SoleCells, got_alone, notes_alone, roomy_alone, serves_alone, sole_calls, sole_cells, sole_stops}
use Rattle.run_function.specs.WholeRounds.{answered_round, auctioned_alone, lost_alone, placed_alone, planned_alone, report_alone, round_alone, sole_round, stopped_alone}
use Rattle.run_function.proofs.Heard.{asked_all, opened_all}
use Rattle.run_function.proofs.Leads.{Leads, calls_in, leads_calls, leads_looks, leads_then}
use Rattle.run_function.proofs.ServesAlone.{AreServedAlone, cells_in, served_all}
use Rattle.run_function.proofs.Steady.{IsOf}
use Rattle.run_function.proofs.StopsAlone.{AreStopsAlone, stopped_all}

module _ (line : RoundLine) (by : ℕ) (now : Moment) (s s' : Standing) (r : Report) (h : IsRound by now line.line s s' r)
    (are : AreReps s.reps) (of : IsOf line s.wire) where
  abbrev b : SoleBoard
  b = board_seen s.view

  abbrev got : List Answer
  got = h.opens.hearing.got

  abbrev v1 : PortView
  v1 = h.opens.work_called.read

  abbrev v2 : PortView
  v2 = h.opens.plan_called.read

  abbrev f : PortView
  f = h.opened.view

  abbrev p : Places
  p = h.opening_is.places

  abbrev rows : Rows
  rows = rows_seen f

  abbrev C : SoleCalls
  C = sole_calls (board_seen f) h.opened.tally

  abbrev R : List Answer
  R = roomy_alone rows h.opened.reps got

  heard : (got ≡ got_alone line s.reps (rows_seen h.opens.first) now) × IsOf line h.opens.wire
  heard = asked_all line s.reps are (present (rows_seen h.opens.first) now) (questions s.wire [])
      (questions h.opens.wire got) h.opens.heard.got of

  stops : AreStopsAlone line (strays (rows_seen h.opens.third) got) (so_far (stops_at h.opens.wire s.reps) [])
      (so_far (stops_at h.opened.wire h.opened.reps) h.opens.stops.stopped)
  stops = stopped_all line (strays (rows_seen h.opens.third) got) (so_far (stops_at h.opens.wire s.reps) [])
      (so_far (stops_at h.opened.wire h.opened.reps) h.opens.stops.stopped)
      are h.opens.stopped.each heard.1

  roomy_is : p.roomy ≡ R
  roomy_is = opened_all rows h.opened.reps stops.are got [] p.roomy h.opens.placed.open_are

  places_are : p.placements ≡ placements rows R
  places_are = h.opens.placed.placed ∙ ap (placements rows) roomy_is

  served : AreServedAlone line by now p p.roomy h.opened h.served
  served = served_all line by now p p.roomy h.opened h.served stops.are stops.still h.serves

  pub reps_after : AreReps s'.reps
  reps_after = subst AreReps (sym h.reps_are) served.are

  abbrev E0 : Type 0
  E0 = board_seen h.first ≡ b

  abbrev E1 : Type 0
  E1 = board_seen h.opens.first ≡ board_seen h.first

  abbrev E2 : Type 0
  E2 = board_seen v1 ≡ board_seen h.opens.first

  abbrev E3 : Type 0
  E3 = calls_in h.opens.worked ≡ notes_alone by (work (rows_seen v1) now) (sole_calls (board_seen v1) no_calls)

  abbrev E4 : Type 0
  E4 = board_seen v2 ≡ board_seen h.opens.worked.view

  abbrev E5 : Type 0
  E5 = calls_in h.opens.planned ≡ notes_alone by (plan_of_answers (rows_seen v2) got now)
      (sole_calls (board_seen v2) h.opens.worked.tally)

  abbrev E6 : Type 0
  E6 = board_seen h.opens.third ≡ board_seen h.opens.planned.view

  abbrev E7 : Type 0
  E7 = board_seen f ≡ board_seen h.opens.third

  abbrev E8 : Type 0
  E8 = cells_in h.served ≡ serves_alone line by now p.rows p.placements p.roomy (cells_in h.opened)

  abbrev E9 : Type 0
  E9 = calls_in h.noted ≡ notes_alone by (fails_in now p) (sole_calls (board_seen h.served.view) h.served.tally)

  abbrev E10 : Type 0
  E10 = board_seen s'.view ≡ board_seen h.noted.view

  l0 : Leads s.view h.first E0
  l0 = leads_looks s.view h.first h.looks

  l1 : Leads h.first h.opens.first E1
  l1 = leads_looks h.first h.opens.first h.opens.looks

  l2 : Leads h.opens.first v1 E2
  l2 = leads_looks h.opens.first v1 h.opens.work_called.looks

  l3 : Leads v1 h.opens.worked.view E3
  l3 = leads_calls by (work (rows_seen v1) now) (calling v1 no_calls) h.opens.worked h.opens.work_called.calls

  l4 : Leads h.opens.worked.view v2 E4
  l4 = leads_looks h.opens.worked.view v2 h.opens.plan_called.looks

  l5 : Leads v2 h.opens.planned.view E5
  l5 = leads_calls by (plan_of_answers (rows_seen v2) got now)
      (calling v2 h.opens.worked.tally) h.opens.planned h.opens.plan_called.calls

  l6 : Leads h.opens.planned.view h.opens.third E6
  l6 = leads_looks h.opens.planned.view h.opens.third h.opens.looks_third

  l7 : Leads h.opens.third f E7
  l7 = leads_looks h.opens.third f h.opens.looks_last

  l9 : Leads h.served.view h.noted.view E9
  l9 = leads_calls by (fails_in now p) (calling h.served.view h.served.tally) h.noted h.notes

  l10 : Leads h.noted.view s'.view E10
  l10 = leads_looks h.noted.view s'.view h.looks_last

  abbrev A9 : Type 0
  A9 = E9 × E10

  abbrev A8 : Type 0
  A8 = E8 × A9

  abbrev A7 : Type 0
  A7 = E7 × A8

  abbrev A6 : Type 0
  A6 = E6 × A7

  abbrev A5 : Type 0
  A5 = E5 × A6

  abbrev A4 : Type 0
  A4 = E4 × A5

  abbrev A3 : Type 0
  A3 = E3 × A4

  abbrev A2 : Type 0
  A2 = E2 × A3

  abbrev A1 : Type 0
  A1 = E1 × A2

  m7 : Leads h.opens.third s'.view A7
  m7 = leads_then h.opens.third f s'.view E7 A8 l7
      (leads_then f h.served.view s'.view E8 A9 served.leads
      (leads_then h.served.view h.noted.view s'.view E9 E10 l9 l10))

  m4 : Leads h.opens.worked.view s'.view A4
  m4 = leads_then h.opens.worked.view v2 s'.view E4 A5 l4
      (leads_then v2 h.opens.planned.view s'.view E5 A6 l5
      (leads_then h.opens.planned.view h.opens.third s'.view E6 A7 l6 m7))

  m1 : Leads h.first s'.view A1
  m1 = leads_then h.first h.opens.first s'.view E1 A2 l1
      (leads_then h.opens.first v1 s'.view E2 A3 l2 (leads_then v1 h.opens.worked.view s'.view E3 A4 l3 m4))

  pub whole : Leads s.view s'.view (E0 × A1)
  whole = leads_then s.view h.first s'.view E0 A1 l0 m1

  -- the parts of the function, by what was found
  first_is : E0 → E1 → board_seen h.opens.first ≡ b
  first_is e0 e1 = e1 ∙ e0

  got_is : E0 → E1 → got ≡ got_alone line s.reps (rows_on b) now
  got_is e0 e1 = heard.0 ∙ ap (λ (x : SoleBoard). got_alone line s.reps (rows_on x) now) (first_is e0 e1)

  planned_is : E0 → E1 → E2 → E3 → E4 → E5 → calls_in h.opens.planned ≡ planned_alone by now got b
  planned_is e0 e1 e2 e3 e4 e5 =
      let worked = e3 ∙ ap (λ (x : SoleBoard). notes_alone by (work (rows_on x) now) (sole_calls x no_calls))
      (e2 ∙ first_is e0 e1) in
      e5
      ∙ ap (λ (x : SoleBoard). notes_alone by (plan_of_answers (rows_on x) got now) (sole_calls x h.opens.worked.tally))
      e4
      ∙ ap (λ (x : SoleCalls). notes_alone by (plan_of_answers (rows_on x.board) got now) x) worked

  opened_is : E0 → E1 → E2 → E3 → E4 → E5 → E6 → E7 → C ≡ planned_alone by now got b
  opened_is e0 e1 e2 e3 e4 e5 e6 e7 =
      let board : board_seen f ≡ board_seen h.opens.planned.view = e7 ∙ e6 in
      let tally : h.opened.tally ≡ h.opens.planned.tally = h.opens.tally_is in
      (λ i. sole_calls (board i) (tally i)) ∙ planned_is e0 e1 e2 e3 e4 e5

  stopped_is : C ≡ planned_alone by now got b → E7 → sole_stops h.opened.reps h.opens.stops.stopped
      ≡ stopped_alone line got s.reps (planned_alone by now got b).board
  stopped_is opened e7 = stops.same ∙ ap (λ (x : SoleBoard). stopped_alone line got s.reps x)
      (sym e7 ∙ ap (λ (x : SoleCalls). x.board) opened)

  rows_are : p.rows ≡ rows
  rows_are = h.opens.placed.rows_are

  abbrev served_cells : SoleCells
  served_cells = serves_alone line by now rows (placements rows R) R (sole_cells C h.opened.reps)

  served_is : E8 → cells_in h.served ≡ served_cells
  served_is e8 = e8 ∙ (λ i. serves_alone line by now (rows_are i) (places_are i) (roomy_is i) (cells_in h.opened))

  last_is : E8 → E9 → sole_cells (calls_in h.noted) h.served.reps
      ≡ placed_alone line by now rows R (sole_cells C h.opened.reps)
  last_is e8 e9 =
      let noted : calls_in h.noted ≡ notes_alone by (fails_of rows now (unplaced (placements rows R)))
      (cells_in h.served).calls =
      e9 ∙ (λ i. notes_alone by (fails_of (rows_are i) now (unplaced (places_are i))) (cells_in h.served).calls) in
      (λ i. sole_cells (noted i) h.served.reps)
      ∙ ap (λ (x : SoleCells). sole_cells (notes_alone by (fails_of rows now (unplaced (placements rows R))) x.calls)
      x.reps) (served_is e8)

  abbrev asked : ℕ
  asked = length (present (rows_on b) now)

  abbrev lost : ℕ
  lost = lost_alone asked got (board_seen f) (sole_stops h.opened.reps h.opens.stops.stopped)

  asked_is : E0 → E1 → h.opening_is.asked ≡ asked
  asked_is e0 e1 = h.opens.asked_is ∙ h.opens.heard.asked ∙ ap (λ (x : SoleBoard). length (present (rows_on x) now))
      (first_is e0 e1)

  lost_is : E0 → E1 → E7 → h.opening_is.lost ≡ lost
  lost_is e0 e1 e7 =
      let n : h.opens.hearing.asked ≡ asked = h.opens.heard.asked ∙ ap
      (λ (x : SoleBoard). length (present (rows_on x) now)) (first_is e0 e1) in
      let m : h.opens.stops.lost ≡ length (strays rows got) - length h.opens.stops.stopped =
      h.opens.stopped.lost ∙ ap (λ (x : SoleBoard). length (strays (rows_on x) got) - length h.opens.stops.stopped)
      (sym e7) in
      h.opens.lost_is ∙ (λ i. min ((n i - length got) + m i) (2 ^ 64 - 1))

  report_is : E0 → E1 → E7 → E10 → r ≡ report_alone line.line (length b.log) asked lost h.opens.stops.stopped
      (placements rows R) (sole_cells (calls_in h.noted) h.served.reps)
  report_is e0 e1 e7 e10 =
      let q = h.reports in
      let start : length h.first.seen ≡ length b.log = ap (λ (x : SoleBoard). length x.log) e0 in
      let end : r.end ≡ length h.noted.view.seen = q.end_is ∙ ap (λ (x : SoleBoard). length x.log) e10 in
      let r_start : r.start ≡ length b.log = q.start_is ∙ start in
      let r_asked : r.asked ≡ asked = q.asked ∙ asked_is e0 e1 in
      let r_lost : r.lost ≡ min (lost + h.noted.tally.lost) (2 ^ 64 - 1) =
      q.lost ∙ ap (λ (n : ℕ). min (n + h.noted.tally.lost) (2 ^ 64 - 1)) (lost_is e0 e1 e7) in
      let r_unplaced : r.unplaced ≡ unplaced (placements rows R) = q.without_room ∙ ap unplaced places_are in
      let r_foreign : r.foreign ≡ (length h.noted.view.seen - length b.log) - h.noted.tally.own =
      q.foreign ∙ (λ i. (end i - start i) - h.noted.tally.own) in
      let r_stopped : r.stopped ≡ h.opens.stops.stopped = q.stopped ∙ h.opens.stopped_is in
      let r_stores : r.stores.value ≡ filter_map answer_of h.served.reps = q.stores ∙ ap (filter_map answer_of) h.reps_are in
      λ i. record {
        line = q.line_is i;
        start = r_start i;
        end = end i;
        asked = r_asked i;
        lost = r_lost i;
        refused = q.refused i;
        unplaced = r_unplaced i;
        foreign = r_foreign i;
        own = q.own i;
        stopped = r_stopped i;
        stores = record { value = r_stores i; marker = record {} };
      }

  auctioned_is : E0 → E1 → E7 → E8 → E9 → E10
      → auctioned_alone line by now (length b.log) asked got C (sole_stops h.opened.reps h.opens.stops.stopped)
      ≡ sole_round r (board_seen s'.view) s'.reps
  auctioned_is e0 e1 e7 e8 e9 e10 =
      let report = sym (report_is e0 e1 e7 e10) in
      let board = sym e10 in
      let reps = sym h.reps_are in
      ap (λ (x : SoleCells). sole_round (report_alone line.line (length b.log) asked lost h.opens.stops.stopped
      (placements rows R) x) x.calls.board x.reps) (sym (last_is e8 e9))
      ∙ (λ i. sole_round (report i) (board i) (reps i))

  all_is : E0 → E1 → E2 → E3 → E4 → E5 → E6 → E7 → E8 → E9 → E10
      → round_alone line by now s.reps b ≡ sole_round r (board_seen s'.view) s'.reps
  all_is e0 e1 e2 e3 e4 e5 e6 e7 e8 e9 e10 =
      let opened = opened_is e0 e1 e2 e3 e4 e5 e6 e7 in
      let planned = sym opened in
      let stopped = sym (stopped_is opened e7) in
      ap (λ (g : List Answer). answered_round line by now g s.reps b) (sym (got_is e0 e1))
      ∙ (λ i. auctioned_alone line by now (length b.log) asked got (planned i) (stopped i))
      ∙ auctioned_is e0 e1 e7 e8 e9 e10

  pub round_is : IsQuiet s.view s'.view → round_alone line by now s.reps b ≡ sole_round r (board_seen s'.view) s'.reps
  round_is q =
      let a = whole.holds q in
      let a1 = a.1 in
      let a2 = a1.1 in
      let a3 = a2.1 in
      let a4 = a3.1 in
      let a5 = a4.1 in
      let a6 = a5.1 in
      let a7 = a6.1 in
      let a8 = a7.1 in
      all_is a.0 a1.0 a2.0 a3.0 a4.0 a5.0 a6.0 a7.0 a8.0 a8.1.0 a8.1.1

pub round_is_alone : (now : Moment) (line : RoundLine) (reps reps' : List CellRep) (v w : PortView) (r : Report)
    → RoundOf now line reps reps' v w r
    → IsQuiet v w → AreReps reps → round_alone line 0 now reps (board_seen v) ≡ sole_round r (board_seen w) reps'
round_is_alone now line reps reps' v w r h quiet are =
    round_is line 0 now (standing v reps (wire_at (Some (round_ends line)) 0))
    (standing w reps' (wire_at h.ends h.losses)) r h.round are refl quiet

pub reps_are_after : (now : Moment) (line : RoundLine) (reps reps' : List CellRep) (v w : PortView) (r : Report)
    → RoundOf now line reps reps' v w r
    → AreReps reps → AreReps reps'
reps_are_after now line reps reps' v w r h are =
    reps_after line 0 now (standing v reps (wire_at (Some (round_ends line)) 0))
    (standing w reps' (wire_at h.ends h.losses)) r h.round are refl

pub later_round : (now : Moment) (line : RoundLine) (reps reps' : List CellRep) (v w : PortView) (r : Report)
    → RoundOf now line reps reps' v w r
    → AreReps reps → IsLater v w
later_round now line reps reps' v w r h are =
    (whole line 0 now (standing v reps (wire_at (Some (round_ends line)) 0))
    (standing w reps' (wire_at h.ends h.losses)) r h.round are refl).later
