-- The answer to a drain, and its steps.
use Rattle.std.specs.Prelude.{ℕ, List, [], ◌∷◌, ◌++◌, length, codes}
use Rattle.std.specs.List.{flat_map}
use Rattle.serde_json.specs.Data.{string}
use Rattle.forecast_records.specs.declared.drains.Drained.{Drained}
use Rattle.forecast_records.specs.declared.drains.Step.{Step}
use Rattle.line_writing.specs.Spelled.{optional_name_data, whole}
use Rattle.headroom_print.specs.AmountLines.{zone_then_line}
use Rattle.headroom_print.specs.UnplacedLines.{unplaced_line}
use Rattle.headroom_print.specs.Values.{line_of, names_data, sums_data}
use Rattle.headroom_print.specs.Words.{verdict_word}

-- what happens where batches are emptied
unfoldable pub drained_line : ℕ → Drained → List ℕ
drained_line line d =
    line_of
    ((codes "answer", string (codes "drain"))
    ∷ (codes "at_a_time", whole d.at_a_time)
    ∷ (codes "bad_steps", whole d.bad_steps)
    ∷ (codes "cells", whole d.cells)
    ∷ (codes "empty", whole d.empty)
    ∷ (codes "line", whole line)
    ∷ (codes "most_moves", whole d.most_moves)
    ∷ (codes "moves", whole d.moves)
    ∷ (codes "steps", whole (length d.steps))
    ∷ (codes "tell", string (codes "answer"))
    ∷ (codes "uneven", whole d.uneven)
    ∷ (codes "uneven_before", whole d.uneven_before)
    ∷ (codes "verdict", string (verdict_word d.verdict))
    ∷ [])

-- a batch that is emptied
unfoldable pub step_line : ℕ → Step → List ℕ
step_line line s =
    line_of
    ((codes "cells", names_data s.cells)
    ∷ (codes "displaced", whole s.displaced)
    ∷ (codes "free_left", sums_data s.free_left)
    ∷ (codes "line", whole line)
    ∷ (codes "step", whole s.step)
    ∷ (codes "tag", optional_name_data s.tag)
    ∷ (codes "tell", string (codes "step"))
    ∷ (codes "unplaced", whole s.unplaced)
    ∷ (codes "verdict", string (verdict_word s.verdict))
    ∷ (codes "waiting_unplaced", whole s.waiting_unplaced)
    ∷ (codes "zone", string s.zone)
    ∷ [])

-- a batch that is emptied, and the jobs without room then
abbrev pub step_lines : ℕ → Step → List ℕ
step_lines line s =
    step_line line s
    ++ (flat_map (unplaced_line line) s.without_room)

-- the answer to a drain, and what is under it
abbrev pub drain_lines : ℕ → Drained → List ℕ
drain_lines line d =
    drained_line line d
    ++ (flat_map (step_lines line) d.steps
    ++ (flat_map (zone_then_line line) d.zones))
