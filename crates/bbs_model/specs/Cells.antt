-- What is asked of cells.
use Rattle.std.specs.Prelude.{ℕ, ◌+◌, ◌==◌, ◌&&◌, true, false, List, [], ◌∷◌, nat_le, nat_lt, Option, Some, None, is_none, if◌then◌else◌}
use Rattle.cell_records.specs.declared.amounts.Amounts.{Amounts}
use Rattle.cell_records.specs.declared.cell_row.CellRow.{CellRow}
use Rattle.crash_backoff.specs.declared.moment.Moment.{Moment}
use Rattle.bbs_model.specs.Attempts.{Refusals, unless_refused, if_joined, put, drop_row}
use Rattle.bbs_model.specs.Limits.{most_cells}
use Rattle.bbs_model.specs.declared.attempt.Attempt.{Attempt}
use Rattle.bbs_model.specs.declared.attempt.Attempt.TheVariants.{Refuse, Keep}
use Rattle.bbs_model.specs.declared.event.Row.TheVariants as row
use Rattle.bbs_model.specs.declared.found.Found.{Found}
use Rattle.bbs_model.specs.declared.verdict.BoardRefusal.TheVariants.{TooMany, UnknownCell, LeaseHolds}

-- why a cell can't join
abbrev pub join_refusals : Found → Refusals
join_refusals found =
    (is_none found.cell && nat_le most_cells found.counts.cells, TooMany most_cells) ∷ []

-- a cell joins, in the place of the one of its name: its epoch is the board's next transition, and its
-- lease ends after so many seconds
abbrev pub join : Found → List ℕ → List ℕ → Option (List ℕ) → Amounts → ℕ → Moment → Attempt
join found cell zone tag totals ttl now = unless_refused (join_refusals found) (put (row.Cell (record {
  cell = cell;
  zone = zone;
  tag = tag;
  totals = totals;
  epoch = found.next;
  until = now.0 + ttl;
  evacuating = false;
})))

-- the lease ends so many seconds from now
abbrev pub renew : Found → ℕ → ℕ → Moment → Attempt
renew found epoch ttl now = if_joined found.cell epoch (λ old.
    if old.until == now.0 + ttl then Keep else put (row.Cell (record old { until = now.0 + ttl })))

-- the cell is to be emptied
abbrev pub drain : Found → ℕ → Attempt
drain found epoch = if_joined found.cell epoch (λ old.
    if old.evacuating then Keep else put (row.Cell (record old { evacuating = true })))

-- the cell is dropped, once its lease has ended
abbrev pub vanish : Option CellRow → Moment → Attempt
vanish None now = Refuse UnknownCell
vanish (Some old) now = if nat_lt now.0 old.until then Refuse (LeaseHolds old.until) else drop_row (row.Cell old)
