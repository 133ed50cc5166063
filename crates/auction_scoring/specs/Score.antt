-- What a cell scores for a job, of which the least is best.
use Rattle.std.specs.Prelude.{ℕ, ◌+◌, ◌-◌, ◌*◌, ◌/◌, ◌==◌, if◌then◌else◌}
use Rattle.auction_scoring.specs.declared.cell_view.CellView.{CellView}
use Rattle.auction_scoring.specs.declared.scores.Score.{Score}

-- the thousandths of a total that are used, rounded down, and 0 of a total of 0
abbrev pub used_share : ℕ → ℕ → ℕ
used_share total free = if total == 0 then 0 else 1000 * (total - free) / total

-- how full a cell is: the shares of its memory, its disk and its containers, together
abbrev pub load_of : CellView → ℕ
load_of view =
    used_share view.totals.memory view.free.memory
    + used_share view.totals.disk view.free.disk
    + used_share view.totals.containers view.free.containers

-- the containers of the job's process in the cell's zone, those on the cell, the load and the name
abbrev pub score_of : CellView → Score
score_of view =
    record { in_zone = view.in_zone; on_cell = view.on_cell; load = load_of view; cell = view.cell }
