-- Which jobs go to which cells.
use Rattle.std.specs.Prelude.{◌≡◌, ℕ, Bool, true, false, not, List, ◌++◌, Option, Some, None, if◌then◌else◌}
use Rattle.std.specs.List.{filter_map}
use Rattle.std.specs.Option.{option_map_or, option_and_then, option_to_list}
use Rattle.auctioneer.specs.Auction.{auction}
use Rattle.auctioneer.specs.Order.{in_order}
use Rattle.auctioneer.specs.Stands.{same_name}
use Rattle.auctioneer.specs.declared.placement.Placement.{Placement}
use Rattle.auctioneer.specs.declared.placement.Placement.TheVariants.{On, NoRoom}
use Rattle.cell_records.specs.declared.answer.Answer.{Answer}
use Rattle.cell_records.specs.declared.cell_row.CellRow.{CellRow}
use Rattle.cell_records.specs.declared.job.Job.{Job}
use Rattle.cell_records.specs.declared.job_name.JobName.{JobName}
use Rattle.cell_records.specs.declared.job_name.JobName.TheVariants as name
use Rattle.cell_rep.specs.declared.rep.CellRep.{CellRep}
use Rattle.crash_backoff.specs.declared.moment.Moment.{Moment}
use Rattle.lrp_records.specs.declared.actual.Actual.{Actual}
use Rattle.lrp_records.specs.declared.presence.Presence.TheVariants.{Ordinary}
use Rattle.bbs_model.specs.Tables.{find_actual, find_cell}
use Rattle.bbs_model.specs.Work.{at}
use Rattle.bbs_model.specs.declared.command.Command.{Command}
use Rattle.bbs_model.specs.declared.command.Op.TheVariants as op
use Rattle.bbs_model.specs.declared.rows.Rows.{Rows}
use Rattle.converge_round.specs.Askings.{Hears}
use Rattle.converge_round.specs.Jobs.{jobs, named_job}

-- the board knows that the cell is being emptied
abbrev pub is_being_emptied : Rows → List ℕ → Bool
is_being_emptied rows cell = option_map_or (λ (c : CellRow). c.evacuating) (find_cell rows cell) false

-- what a cell that answered has now; one that is being emptied is left out
abbrev pub OpensIf : Bool → List CellRep → Answer → Option Answer → Type 0
OpensIf true cells x now = now ≡ None
OpensIf false cells x now = Hears cells x.cell x.epoch now

-- one cell more that jobs may go to, if they may
pub record OpensOne (rows : Rows) (cells : List CellRep) (x : Answer) (s s' : List Answer) : Type 0 where
  pub now : Option Answer
  pub opens : OpensIf (is_being_emptied rows x.cell) cells x now
  pub more : s' ≡ s ++ option_to_list now

-- where the work that waits goes, on cells that have so much left
abbrev pub placements : Rows → List Answer → List Placement
placements rows cells = auction cells (in_order (jobs rows))

-- the job of a placement, if it is on that cell
abbrev pub job_on : Rows → List ℕ → Placement → Option Job
job_on rows cell (On job other) = if same_name other cell then named_job rows job else None
job_on rows cell (NoRoom job) = None

-- the jobs that go to that cell
abbrev pub jobs_on : Rows → List Placement → List ℕ → List Job
jobs_on rows list cell = filter_map (job_on rows cell) list

-- the job that no cell had room for, if there was none
abbrev pub without_room : Placement → Option JobName
without_room (On job cell) = None
without_room (NoRoom job) = Some job

-- the jobs that no cell had room for
abbrev pub unplaced : List Placement → List JobName
unplaced list = filter_map without_room list

-- a row that has not noted yet that it has no room is to note it
abbrev pub fail_if : Moment → Actual → Option Command
fail_if now a = if not a.error then Some (at now (op.PlaceFail a.key)) else None

-- what an instance without room is to note, if its row has not noted it yet
abbrev pub fail_of : Rows → Moment → JobName → Option Command
fail_of rows now (name.Task task) = None
fail_of rows now (name.Lrp key) = option_and_then (fail_if now) (find_actual rows key Ordinary)

-- the same of each job
abbrev pub fails_of : Rows → Moment → List JobName → List Command
fails_of rows now list = filter_map (fail_of rows now) list
