-- A round that alone calls the board, over a wire that loses what its line says.
use Rattle.std.specs.Prelude.{ℕ, List, [], ◌∷◌, ◌++◌, Option, Some, None, if◌then◌else◌}
use Rattle.std.specs.List.{filter_map}
use Rattle.auctioneer.specs.declared.placement.Placement.{Placement}
use Rattle.bbs_model.specs.declared.command.Command.{Command}
use Rattle.bbs_model.specs.declared.rows.Rows.{Rows}
use Rattle.cell_records.specs.declared.answer.Answer.{Answer}
use Rattle.cell_records.specs.declared.cell_row.CellRow.{CellRow}
use Rattle.cell_records.specs.declared.job.Job.{Job}
use Rattle.cell_rep.specs.Acts.{job_begun, job_todo}
use Rattle.cell_rep.specs.Ends.{without}
use Rattle.cell_rep.specs.Follows.{answer_to}
use Rattle.cell_rep.specs.declared.rep.CellRep.{CellRep}
use Rattle.cell_rep.specs.declared.todo.Todo.{Todo}
use Rattle.cell_rep.specs.declared.wire.CallKind.TheVariants.{Board}
use Rattle.converge_round.specs.Askings.{present}
use Rattle.converge_round.specs.Places.{is_being_emptied, jobs_on}
use Rattle.converge_round.specs.Starts.{counted}
use Rattle.converge_round.specs.Tallies.{lost_one, noted}
use Rattle.converge_round.specs.declared.tally.Tally.{Tally}
use Rattle.crash_backoff.specs.declared.moment.Moment.{Moment}
use Rattle.diego_names.specs.declared.instance.Instance.{Instance}
use Rattle.phase_runs.specs.Names.{is_among}
use Rattle.phase_runs.specs.RoundMarks.{end_to, round_ends}
use Rattle.scenario_lines.specs.declared.script.RoundLine.{RoundLine}
use Rattle.run_function.specs.Acts.{SoleRep, end_alone, todo_alone}
use Rattle.run_function.specs.Boards.{SoleBoard, board_after, reply_alone}
use Rattle.run_function.specs.Reps.{rep_answer, rep_named, with_rep}

-- what a cell answers, unless the line loses its question
abbrev pub asked_alone : RoundLine → List CellRep → CellRow → Option Answer
asked_alone line reps c = if is_among line.lose_ask c.cell then None else rep_answer reps c.cell c.epoch

-- what the cells answer that are present by these rows
abbrev pub got_alone : RoundLine → List CellRep → Rows → Moment → List Answer
got_alone line reps rows now = filter_map (asked_alone line reps) (present rows now)

-- the board, and what was counted of the calls
pub record SoleCalls : Type 0 where
  pub board : SoleBoard
  pub tally : Tally

-- these two
abbrev pub sole_calls : SoleBoard → Tally → SoleCalls
sole_calls board tally = record { board = board; tally = tally }

-- a command is called
abbrev pub note_alone : ℕ → Command → SoleCalls → SoleCalls
note_alone by c s = sole_calls (board_after by c s.board) (noted c (reply_alone s.board c) s.tally)

-- commands are called in order
abbrev pub notes_alone : ℕ → List Command → SoleCalls → SoleCalls
notes_alone by [] s = s
notes_alone by (c ∷ cs) s = notes_alone by cs (note_alone by c s)

-- the reps, and the strays that were stopped so far
pub record SoleStops : Type 0 where
  pub reps : List CellRep
  pub stopped : List (List ℕ × Instance)

-- these two
abbrev pub sole_stops : List CellRep → List (List ℕ × Instance) → SoleStops
sole_stops reps stopped = record { reps = reps; stopped = stopped }

-- the cell gives the container up, if it has a rep
abbrev pub given_up : List ℕ × Instance → SoleStops → Option CellRep → SoleStops
given_up stray s None = s
given_up stray s (Some rep) = sole_stops (with_rep s.reps stray.0 (without rep stray.1)) (s.stopped ++ stray ∷ [])

-- a stray is stopped, unless the line loses its stop
abbrev pub stop_alone : RoundLine → List ℕ × Instance → SoleStops → SoleStops
stop_alone line stray s = if is_among line.lose_stop stray.0 then s else given_up stray s (rep_named s.reps stray.0)

-- strays are stopped in order
abbrev pub stops_alone : RoundLine → List (List ℕ × Instance) → SoleStops → SoleStops
stops_alone line [] s = s
stops_alone line (stray ∷ rest) s = stops_alone line rest (stop_alone line stray s)

-- what a cell that answered has now; one that is being emptied is left out
abbrev pub roomy_one : Rows → List CellRep → Answer → Option Answer
roomy_one rows reps x = if is_being_emptied rows x.cell then None else rep_answer reps x.cell x.epoch

-- the cells that jobs may go to, with what they have now
abbrev pub roomy_alone : Rows → List CellRep → List Answer → List Answer
roomy_alone rows reps got = filter_map (roomy_one rows reps) got

-- one rep, the board, and what was counted of the calls
pub record SoleStarts : Type 0 where
  pub rep : CellRep
  pub board : SoleBoard
  pub tally : Tally

-- these three
abbrev pub sole_starts : CellRep → SoleBoard → Tally → SoleStarts
sole_starts rep board tally = record { rep = rep; board = board; tally = tally }

-- a rep that has made room for a job, with the board that it calls next
abbrev pub rep_starting : RoundLine → Job → CellRep → SoleBoard → SoleRep
rep_starting line job rep board =
    record { rep = job_begun job rep rep.joined; board = board; ends = round_ends line; out = [] }

-- all after a start that reached the rep, which had this to do
abbrev pub taken_by : RoundLine → ℕ → Job → Todo → SoleStarts → SoleStarts
taken_by line by job t s =
    let after = todo_alone by s.rep.cell t (rep_starting line job s.rep s.board) in
    let answer = answer_to t (end_alone t (end_to line s.rep.cell Board) s.board) in
    sole_starts after.rep after.board (counted answer.command answer.end s.tally)

-- a job is started on a rep, unless the line loses its start
abbrev pub start_alone : RoundLine → ℕ → Moment → Job → SoleStarts → SoleStarts
start_alone line by now job s =
    if is_among line.lose_start s.rep.cell then record s { tally = lost_one s.tally }
    else taken_by line by job (job_todo job now s.rep.cell s.rep.joined) s

-- jobs are started in order
abbrev pub starts_alone : RoundLine → ℕ → Moment → List Job → SoleStarts → SoleStarts
starts_alone line by now [] s = s
starts_alone line by now (job ∷ jobs) s = starts_alone line by now jobs (start_alone line by now job s)

-- the board, what was counted, and the reps
pub record SoleCells : Type 0 where
  pub calls : SoleCalls
  pub reps : List CellRep

-- these two
abbrev pub sole_cells : SoleCalls → List CellRep → SoleCells
sole_cells calls reps = record { calls = calls; reps = reps }

-- the reps with one that has served, and the board and the counts after it
abbrev pub behind_starts : List CellRep → List ℕ → SoleStarts → SoleCells
behind_starts reps cell t = sole_cells (sole_calls t.board t.tally) (with_rep reps cell t.rep)

-- these jobs are started on the rep of a cell, if it has one
abbrev pub served_by : RoundLine → ℕ → Moment → List Job → List ℕ → SoleCells → Option CellRep → SoleCells
served_by line by now jobs cell s None = s
served_by line by now jobs cell s (Some rep) =
    behind_starts s.reps cell (starts_alone line by now jobs (sole_starts rep s.calls.board s.calls.tally))

-- the jobs that go to a cell are started on it
abbrev pub serve_alone : RoundLine → ℕ → Moment → Rows → List Placement → Answer → SoleCells → SoleCells
serve_alone line by now rows places x s =
    served_by line by now (jobs_on rows places x.cell) x.cell s (rep_named s.reps x.cell)

-- cell by cell
abbrev pub serves_alone : RoundLine → ℕ → Moment → Rows → List Placement → List Answer → SoleCells → SoleCells
serves_alone line by now rows places [] s = s
serves_alone line by now rows places (x ∷ xs) s =
    serves_alone line by now rows places xs (serve_alone line by now rows places x s)
