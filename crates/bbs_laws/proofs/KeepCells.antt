-- What is asked of cells leaves a valid board.
use Rattle.std.proofs.Common.{◌≡◌, ℕ, ◌+◌, ◌<◌, ◌==◌, true, false, cond, List, length, Option, Some, None, nat_lt, refl, ap, ◌∙◌, arith}
use Rattle.cell_records.specs.declared.amounts.Amounts.{Amounts}
use Rattle.cell_records.specs.declared.cell_row.CellRow.{CellRow}
use Rattle.crash_backoff.specs.declared.moment.Moment.{Moment}
use Rattle.diego_names.specs.Order.{name_order}
use Rattle.diego_names.proofs.Public.{IsKeyOrder-name_order}
use Rattle.row_tables.specs.Table.{put_row, without_row}
use Rattle.row_tables.proofs.Public.{key-find_row}
use Rattle.bbs_model.specs.Attempts.{put, drop_row}
use Rattle.bbs_model.specs.Cells.{join_refusals, join, renew, drain, vanish}
use Rattle.bbs_model.specs.Found.{found_by}
use Rattle.bbs_model.specs.Limits.{most_cells, most_transitions}
use Rattle.bbs_model.specs.Step.{changed_by, advanced}
use Rattle.bbs_model.specs.Tables.{cell_name_of, find_cell}
use Rattle.bbs_model.specs.Valid.{AreCells, IsValid}
use Rattle.bbs_model.specs.declared.attempt.Attempt.{Attempt}
use Rattle.bbs_model.specs.declared.attempt.Attempt.TheVariants.{Refuse, Keep}
use Rattle.bbs_model.specs.declared.command.Op.TheVariants as op
use Rattle.bbs_model.specs.declared.event.Row.TheVariants as row
use Rattle.bbs_model.specs.declared.rows.Rows.{Rows}
use Rattle.bbs_model.specs.declared.verdict.BoardRefusal.TheVariants.{LeaseHolds}
use Rattle.bbs_laws.proofs.KeepLrps.{cell-found}
use Rattle.bbs_laws.proofs.KeepSteps.{room_from, by_test, by_passing, by_joining}
use Rattle.bbs_laws.proofs.KeepTables.{AreCells-put_new, AreCells-put_known, AreCells-without, AreActual-longer, AreTasks-longer, AreCells-longer}

-- other cells, and one transition more
with_cells : (rows : Rows) (cells : List CellRow) → IsValid rows → rows.next < most_transitions
    → AreCells (rows.next + 1) cells
    → IsValid (advanced (record rows { cells = cells }))
with_cells rows cells valid room h = record {
  desired = valid.desired;
  actual = AreActual-longer rows.next rows.actual valid.actual;
  tasks = AreTasks-longer rows.next rows.tasks valid.tasks;
  cells = h;
  domains = valid.domains;
  next = omega arith;
}

module _ (rows : Rows) (valid : IsValid rows) (room : rows.next < most_transitions) where
  -- the rows are valid after the attempt
  abbrev Stays : Attempt → Type 0
  Stays attempt = IsValid (changed_by rows attempt)

  pub IsValid-join : (cell zone : List ℕ) (tag : Option (List ℕ)) (totals : Amounts) (ttl : ℕ) (now : Moment)
      → IsValid (changed_by rows (join (found_by rows (op.Join cell zone tag totals ttl)) cell zone tag totals ttl now))
  IsValid-join cell zone tag totals ttl now =
      let new : CellRow = record {
        cell = cell;
        zone = zone;
        tag = tag;
        totals = totals;
        epoch = rows.next;
        until =
            now.0 + ttl;
        evacuating = false;
      } in
      by_passing Stays (λ why. valid) (join_refusals (found_by rows (op.Join cell zone tag totals ttl)))
      (put (row.Cell new)) (λ passed.
      with_cells rows (put_row name_order cell_name_of new rows.cells) valid room
      (AreCells-put_new rows.next new rows.cells valid.cells refl
      (room_from (find_cell rows cell) most_cells (length rows.cells) passed.0)))

  -- a row in the place of one that is found, of the same cell and epoch
  IsValid-put_known : (cell : List ℕ) (old new : CellRow) → find_cell rows cell ≡ Some old → new.cell ≡ old.cell
      → new.epoch ≡ old.epoch
      → IsValid (changed_by rows (put (row.Cell new)))
  IsValid-put_known cell old new known same_cell same_epoch =
      let known_new : find_cell rows new.cell ≡ Some old =
      ap (find_cell rows) (same_cell ∙ key-find_row name_order cell_name_of IsKeyOrder-name_order cell old rows.cells
      known) ∙ known in
      let put_there = put_row name_order cell_name_of new rows.cells in
      with_cells rows put_there valid room (AreCells-longer rows.next put_there
      (AreCells-put_known rows.next new old rows.cells valid.cells
      (omega (arith, same_epoch, cell-found rows cell old valid known)) known_new same_epoch))

  pub IsValid-renew : (cell : List ℕ) (epoch ttl : ℕ) (now : Moment)
      → IsValid (changed_by rows (renew (found_by rows (op.Renew cell epoch ttl)) epoch ttl now))
  IsValid-renew cell epoch ttl now =
      let new = λ (old : CellRow). let row : CellRow = record old { until = now.0 + ttl } in row in
      by_joining Stays (λ why. valid) (find_cell rows cell) epoch
      (λ old. cond (old.until == now.0 + ttl) Keep (put (row.Cell (new old)))) (λ old known same.
      by_test Stays (λ why. valid) (old.until == now.0 + ttl) Keep (put (row.Cell (new old))) (λ is. valid) (λ other.
      IsValid-put_known cell old (new old) known refl refl))

  pub IsValid-drain : (cell : List ℕ) (epoch : ℕ) → IsValid
      (changed_by rows (drain (found_by rows (op.Drain cell epoch)) epoch))
  IsValid-drain cell epoch =
      let new = λ (old : CellRow). let row : CellRow = record old { evacuating = true } in row in
      by_joining Stays (λ why. valid) (find_cell rows cell) epoch
      (λ old. cond old.evacuating Keep (put (row.Cell (new old)))) (λ old known same.
      by_test Stays (λ why. valid) old.evacuating Keep (put (row.Cell (new old))) (λ is. valid) (λ other.
      IsValid-put_known cell old (new old) known refl refl))

  pub IsValid-vanish : (found : Option CellRow) (now : Moment) → IsValid (changed_by rows (vanish found now))
  IsValid-vanish None now = valid
  IsValid-vanish (Some old) now =
      let left = without_row name_order cell_name_of old.cell rows.cells in
      by_test Stays (λ why. valid) (nat_lt now.0 old.until) (Refuse (LeaseHolds old.until)) (drop_row (row.Cell old))
      (λ holds. valid) (λ ended.
      with_cells rows left valid room (AreCells-longer rows.next left
      (AreCells-without rows.next old.cell rows.cells valid.cells)))
