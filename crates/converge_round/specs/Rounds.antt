-- A whole round, and what its report says of it.
use Rattle.std.specs.Prelude.{◌≡◌, ℕ, ◌+◌, ◌-◌, ◌^◌, min, List, length}
use Rattle.std.specs.List.{filter_map}
use Rattle.cell_rep.specs.Reps.{answer_of}
use Rattle.cell_rep.specs.declared.rep.CellRep.{CellRep}
use Rattle.convergence.specs.declared.report.Report.{Report}
use Rattle.crash_backoff.specs.declared.moment.Moment.{Moment}
use Rattle.bbs_model.specs.PortView.{PortView, Looks}
use Rattle.converge_round.specs.Callings.{Calling, calling, IsNoted}
use Rattle.converge_round.specs.Sendings.{WireAt}
use Rattle.converge_round.specs.Each.{Each}
use Rattle.converge_round.specs.Phases.{Course, course, IsOpenedRound, ServesOne, fails_in}
use Rattle.converge_round.specs.Places.{unplaced}
use Rattle.converge_round.specs.Tallies.{no_calls}
use Rattle.converge_round.specs.declared.opening.Opening.{Opening}
use Rattle.converge_round.specs.declared.tally.Tally.{Tally}

-- what a report says: of the round up to its claims, of what was counted since, of the reps after it, and of the log
pub record IsReport (line start : ℕ) (o : Opening) (tally : Tally) (reps : List CellRep) (last : PortView) (r : Report) : Type 0 where
  pub line_is : r.line ≡ line
  pub start_is : r.start ≡ start
  pub end_is : r.end ≡ length last.seen
  pub asked : r.asked ≡ o.asked
  pub lost : r.lost ≡ min (o.lost + tally.lost) (2 ^ 64 - 1)
  pub refused : r.refused ≡ tally.refused
  pub without_room : r.unplaced ≡ unplaced o.places.placements
  pub own : r.own ≡ tally.own
  pub foreign : r.foreign ≡ (r.end - start) - tally.own
  pub stopped : r.stopped ≡ o.stopped
  pub stores : r.stores.value ≡ filter_map answer_of reps

-- what a round has seen of the board, the reps and the wire
pub record Standing : Type 0 where
  pub view : PortView
  pub reps : List CellRep
  pub wire : WireAt

-- these three
abbrev pub standing : PortView → List CellRep → WireAt → Standing
standing view reps wire = record { view = view; reps = reps; wire = wire }

-- a round: it begins, does the first five phases, starts jobs on each cell, notes those that have no room, and ends
pub record IsRound (by : ℕ) (now : Moment) (line : ℕ) (s s' : Standing) (r : Report) : Type 0 where
  pub first : PortView
  pub looks : Looks s.view first
  pub opened : Course
  pub opening_is : Opening
  pub opens : IsOpenedRound by now (course first no_calls s.reps s.wire) opened opening_is
  pub served : Course
  pub serves : Each (ServesOne by now opening_is.places) opening_is.places.roomy opened served
  pub noted : Calling
  pub notes : Each (IsNoted by) (fails_in now opening_is.places) (calling served.view served.tally) noted
  pub looks_last : Looks noted.view s'.view
  pub reps_are : s'.reps ≡ served.reps
  pub wire_is : s'.wire ≡ served.wire
  pub reports : IsReport line (length first.seen) opening_is noted.tally s'.reps s'.view r
