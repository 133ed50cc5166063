-- The answer to what stands and waits.
use Rattle.std.specs.Prelude.{ℕ, List, [], ◌∷◌, ◌++◌, length, codes}
use Rattle.std.specs.List.{flat_map}
use Rattle.serde_json.specs.Data.{string}
use Rattle.forecast_records.specs.declared.stock.Shown.{Shown}
use Rattle.line_writing.specs.Spelled.{whole}
use Rattle.headroom_print.specs.AmountLines.{zone_now_line}
use Rattle.headroom_print.specs.SpreadLines.{one_cell_line, one_zone_line, uneven_line}
use Rattle.headroom_print.specs.TagLines.{tag_line}
use Rattle.headroom_print.specs.UnplacedLines.{unplaced_line}
use Rattle.headroom_print.specs.Values.{line_of}
use Rattle.headroom_print.specs.Words.{verdict_word}

-- what stands and waits now
unfoldable pub shown_line : ℕ → Shown → List ℕ
shown_line line s =
    line_of
    ((codes "answer", string (codes "show"))
    ∷ (codes "cells", whole s.cells)
    ∷ (codes "crashed", whole s.crashed)
    ∷ (codes "evacuating", whole s.evacuating)
    ∷ (codes "instances", whole s.instances)
    ∷ (codes "line", whole line)
    ∷ (codes "one_cell", whole (length s.one_cell))
    ∷ (codes "one_zone", whole (length s.one_zone))
    ∷ (codes "processes", whole s.processes)
    ∷ (codes "silent", whole s.silent)
    ∷ (codes "tasks", whole s.tasks)
    ∷ (codes "tell", string (codes "answer"))
    ∷ (codes "uneven", whole (length s.uneven))
    ∷ (codes "verdict", string (verdict_word s.verdict))
    ∷ (codes "waiting", whole s.waiting)
    ∷ (codes "waiting_unplaced", whole (length s.unplaced))
    ∷ [])

-- the answer, what waits and what zones have
unfoldable pub stock_lines : ℕ → Shown → List ℕ
stock_lines line s =
    shown_line line s
    ++ (flat_map (tag_line line) s.tags
    ++ (flat_map (unplaced_line line) s.unplaced
    ++ (flat_map (zone_now_line line) s.zones)))

-- how processes stand
unfoldable pub standing_lines : ℕ → Shown → List ℕ
standing_lines line s =
    flat_map (uneven_line line) s.uneven
    ++ (flat_map (one_cell_line line) s.one_cell
    ++ (flat_map (one_zone_line line) s.one_zone))

-- the answer to what stands and waits, and what is under it
abbrev pub show_lines : ℕ → Shown → List ℕ
show_lines line s = stock_lines line s ++ standing_lines line s
