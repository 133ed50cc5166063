-- A whole round that alone calls the board: its report, and what it leaves.
use Rattle.std.specs.Prelude.{ℕ, ◌+◌, ◌-◌, ◌^◌, min, List, [], length}
use Rattle.std.specs.List.{filter_map}
use Rattle.auctioneer.specs.declared.placement.Placement.{Placement}
use Rattle.bbs_model.specs.Work.{work}
use Rattle.bbs_model.specs.declared.rows.Rows.{Rows}
use Rattle.cell_records.specs.declared.answer.Answer.{Answer}
use Rattle.cell_rep.specs.Reps.{answer_of}
use Rattle.cell_rep.specs.declared.rep.CellRep.{CellRep}
use Rattle.convergence.specs.Plans.{plan_of_answers}
use Rattle.convergence.specs.Strays.{strays}
use Rattle.convergence.specs.declared.report.Report.{Report}
use Rattle.converge_round.specs.Askings.{present}
use Rattle.converge_round.specs.Places.{fails_of, placements, unplaced}
use Rattle.converge_round.specs.Tallies.{no_calls}
use Rattle.crash_backoff.specs.declared.moment.Moment.{Moment}
use Rattle.diego_names.specs.declared.instance.Instance.{Instance}
use Rattle.scenario_lines.specs.declared.script.RoundLine.{RoundLine}
use Rattle.run_function.specs.Boards.{SoleBoard, rows_on}
use Rattle.run_function.specs.Rounds.{SoleCalls, SoleCells, SoleStops, got_alone, notes_alone, roomy_alone, serves_alone, sole_calls, sole_cells, sole_stops, stops_alone}

-- the first two steps: what the rows ask for is called, and then what the answers ask for
abbrev pub planned_alone : ℕ → Moment → List Answer → SoleBoard → SoleCalls
planned_alone by now got b =
    let worked = notes_alone by (work (rows_on b) now) (sole_calls b no_calls) in
    notes_alone by (plan_of_answers (rows_on worked.board) got now) worked

-- the third: strays are stopped
abbrev pub stopped_alone : RoundLine → List Answer → List CellRep → SoleBoard → SoleStops
stopped_alone line got reps b = stops_alone line (strays (rows_on b) got) (sole_stops reps [])

-- what was lost before the starts: cells without an answer, and stops
abbrev pub lost_alone : ℕ → List Answer → SoleBoard → SoleStops → ℕ
lost_alone asked got b stops =
    min ((asked - length got) + (length (strays (rows_on b) got) - length stops.stopped)) (2 ^ 64 - 1)

-- the last three: the auction is held, jobs are started cell by cell, and those without room are noted
abbrev pub placed_alone : RoundLine → ℕ → Moment → Rows → List Answer → SoleCells → SoleCells
placed_alone line by now rows roomy s =
    let served = serves_alone line by now rows (placements rows roomy) roomy s in
    sole_cells (notes_alone by (fails_of rows now (unplaced (placements rows roomy))) served.calls) served.reps

-- what a report says, of a round that began on one board and left this
abbrev pub report_alone : ℕ → ℕ → ℕ → ℕ → List (List ℕ × Instance) → List Placement → SoleCells → Report
report_alone line start asked lost stopped places s = record {
  line = line;
  start = start;
  end = length s.calls.board.log;
  asked = asked;
  lost = min (lost + s.calls.tally.lost) (2 ^ 64 - 1);
  refused = s.calls.tally.refused;
  unplaced = unplaced places;
  foreign = (length s.calls.board.log - start) - s.calls.tally.own;
  own = s.calls.tally.own;
  stopped = stopped;
  stores = record { value = filter_map answer_of s.reps; marker = record {} };
}

-- a round's report, and the board and the reps after it
pub record SoleRound : Type 0 where
  pub report : Report
  pub board : SoleBoard
  pub reps : List CellRep

-- these three
abbrev pub sole_round : Report → SoleBoard → List CellRep → SoleRound
sole_round report board reps = record { report = report; board = board; reps = reps }

-- a round from its auction on, with what was done and lost before
abbrev pub auctioned_alone : RoundLine → ℕ → Moment → ℕ → ℕ → List Answer → SoleCalls → SoleStops → SoleRound
auctioned_alone line by now start asked got planned stops =
    let rows = rows_on planned.board in
    let roomy = roomy_alone rows stops.reps got in
    let last = placed_alone line by now rows roomy (sole_cells planned stops.reps) in
    sole_round
    (report_alone line.line start asked (lost_alone asked got planned.board stops) stops.stopped (placements rows roomy) last)
    last.calls.board last.reps

-- a round of that caller, for those that answered
abbrev pub answered_round : RoundLine → ℕ → Moment → List Answer → List CellRep → SoleBoard → SoleRound
answered_round line by now got reps b =
    let planned = planned_alone by now got b in
    auctioned_alone line by now (length b.log) (length (present (rows_on b) now)) got planned
    (stopped_alone line got reps planned.board)

-- a whole round
abbrev pub round_alone : RoundLine → ℕ → Moment → List CellRep → SoleBoard → SoleRound
round_alone line by now reps b = answered_round line by now (got_alone line reps (rows_on b) now) reps b
