-- What a round of a phase did on its thread.
use Rattle.std.specs.Prelude.{◌≡◌, ◌⊎◌, ℕ, List, Option, Some, None, Result, Ok, Err, IfOk, IsErr}
use Rattle.std.specs.List.{slice_get}
use Rattle.bbs_board.specs.View.{View}
use Rattle.bbs_model.specs.PortView.{PortView}
use Rattle.bbs_model.specs.declared.item.Item.{Item}
use Rattle.bbs_model.specs.declared.reply.CallFault.{CallFault}
use Rattle.bbs_model.specs.declared.reply.CallFault.TheVariants as fault
use Rattle.bbs_shared.specs.Passes.{seen_by}
use Rattle.bbs_shared.specs.Sharings.{whole_view}
use Rattle.bbs_shared.specs.declared.origin.Origin.{Origin}
use Rattle.cell_rep.specs.declared.rep.CellRep.{CellRep}
use Rattle.convergence.specs.declared.report.Report.{Report}
use Rattle.converge_round.specs.Faults.{IsDoubtedAt}
use Rattle.converge_round.specs.Items.{HasItems}
use Rattle.converge_round.specs.Reps.{KeepReps}
use Rattle.crash_backoff.specs.declared.moment.Moment.{Moment}
use Rattle.phase_runs.specs.Rounds.{RoundOf}
use Rattle.scenario_lines.specs.declared.script.RoundLine.{RoundLine}
use Rattle.ticket_desk.specs.declared.pass.Pass.{Pass}
use Rattle.phase_threads.specs.declared.holding.Held.{Held}

-- a round that ended so has a report; a disk fault leaves none, and want of memory is told as such
abbrev pub IsEndOfRound : {E : Type 0} → Result Report CallFault → Result (Option Report) E → Type 0
IsEndOfRound (Ok r) told = told ≡ Ok (Some r)
IsEndOfRound (Err (fault.Disk place)) told = told ≡ Ok None
IsEndOfRound (Err fault.OutOfMemory) told = IsErr told

-- the report tells what a round did; where there is none, a disk fault ended it, whose doubt it sees
abbrev pub ReportsRound : Moment → RoundLine → List CellRep → List CellRep → PortView → PortView → Option Report → Type 0
ReportsRound now line reps reps' v w None = (place : ℕ) × IsDoubtedAt 0 place v w
ReportsRound now line reps reps' v w (Some r) = RoundOf now line reps reps' v w r

-- a round went over these reps by that port, up to its end or to a want of memory
pub record IsHeld {P : Type 0} (view : P → PortView) (Keeps : P → P → Type 0) (now : Moment) (line : RoundLine)
    (port : P) (reps : List CellRep) (x : Held P) : Type 0 where
  pub keeps : Keeps port x.port
  pub items : HasItems 0 now reps (view port) (view x.port)
  pub same : KeepReps reps x.cells.items
  pub reported : IfOk x.end (ReportsRound now line reps x.cells.items (view port) (view x.port))

module _ {V S D : Type 0} where
  -- the round was held over these reps by the first of the passes
  pub record WasHeld (board : View D) (now : Moment) (line : RoundLine) (reps reps' : List CellRep) (report : Option Report)
      (passes : List (Pass V Item (Origin S))) : Type 0 where
    pub same : KeepReps reps reps'
    pub items : (p : Pass V Item (Origin S)) → slice_get passes 0 ≡ Some p → HasItems 0 now reps (whole_view board) (seen_by p)
    pub reported : (p : Pass V Item (Origin S)) → slice_get passes 0 ≡ Some p
        → ReportsRound now line reps reps' (whole_view board) (seen_by p) report

  -- the round was not begun, or each item of it was asked for
  abbrev pub WasBegun : View D → Moment → List CellRep → List (Pass V Item (Origin S)) → Type 0
  WasBegun board now reps passes = (p : Pass V Item (Origin S)) → slice_get passes 0 ≡ Some p
      → (seen_by p ≡ whole_view board) ⊎ HasItems 0 now reps (whole_view board) (seen_by p)
