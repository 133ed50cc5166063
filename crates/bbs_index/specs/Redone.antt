-- What is left of a step of which only that it was legal is told.
use Rattle.std.specs.Prelude.{◌≡◌, ◌==◌, ℕ, Bool, true, false, List}
use Rattle.std.specs.Option.{option_map_or}
use Rattle.cell_records.specs.declared.cell_row.CellRow.{CellRow}
use Rattle.crash_backoff.specs.declared.moment.Moment.{Moment}
use Rattle.diego_names.specs.declared.key.Key.{Key}
use Rattle.lrp_records.specs.Moves.{lrp_move}
use Rattle.lrp_records.specs.declared.lrp_move.LrpMove.{LrpMove}
use Rattle.lrp_records.specs.declared.presence.Presence.TheVariants.{Ordinary}
use Rattle.bbs_model.specs.Attempts.{if_known, if_joined}
use Rattle.bbs_model.specs.Lrps.{moved_to}
use Rattle.bbs_model.specs.Runs.{if_legal}
use Rattle.bbs_model.specs.Step.{judged, changed_by}
use Rattle.bbs_model.specs.Tables.{find_actual, find_cell}
use Rattle.bbs_model.specs.declared.attempt.Attempt.{Attempt}
use Rattle.bbs_model.specs.declared.rows.Rows.{Rows}

-- the changes of an attempt were made, or it is none and the rows are as they were
pub record IsRedone (attempt : Attempt) (done : Bool) (old new : Rows) : Type 0 where
  pub told : done ≡ if_legal (judged old.next attempt) true false
  pub made : new ≡ if_legal (judged old.next attempt) (changed_by old attempt) old

-- the cell joined with this epoch, and not anew since
abbrev pub has_joined : Rows → List ℕ → ℕ → Bool
has_joined rows cell epoch = option_map_or (λ (row : CellRow). row.epoch == epoch) (find_cell rows cell) false

-- what a move on the ORDINARY row of an instance comes to
abbrev pub row_moved : Rows → Key → LrpMove → Moment → Attempt
row_moved rows key move now = if_known (find_actual rows key Ordinary) (λ old. moved_to old (lrp_move old move now))

-- what such a move comes to where a cell makes it for its container of this epoch
abbrev pub row_moved_by : Rows → Key → List ℕ → ℕ → LrpMove → Moment → Attempt
row_moved_by rows key cell epoch move now = if_known (find_actual rows key Ordinary) (λ old.
    if_joined (find_cell rows cell) epoch (λ row. moved_to old (lrp_move old move now)))
