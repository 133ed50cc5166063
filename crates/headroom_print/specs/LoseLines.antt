-- The answer to a loss, with who is dark and what moves.
use Rattle.std.specs.Prelude.{ℕ, List, [], ◌∷◌, ◌++◌, Bool, ◌==◌, ◌&&◌, length, codes}
use Rattle.std.specs.List.{flat_map}
use Rattle.serde_json.specs.Data.{boolean, string}
use Rattle.forecast_records.specs.declared.losses.Lost.{Lost}
use Rattle.forecast_records.specs.declared.losses.Move.{Move}
use Rattle.line_writing.specs.Spelled.{optional_name_data, whole}
use Rattle.headroom_print.specs.AmountLines.{zone_then_line}
use Rattle.headroom_print.specs.TagLines.{tag_line}
use Rattle.headroom_print.specs.UnplacedLines.{unplaced_line}
use Rattle.headroom_print.specs.Values.{line_of}
use Rattle.headroom_print.specs.Words.{job_text, verdict_word}

-- whether no job is without room, of those that the loss displaced and of those that waited before
abbrev pub is_complete : Lost → Bool
is_complete l = (l.unplaced == 0) && (l.waiting_unplaced == 0)

-- what a loss does
unfoldable pub lost_line : ℕ → Lost → List ℕ
lost_line line l =
    line_of
    ((codes "answer", string (codes "lose"))
    ∷ (codes "cells", whole l.cells)
    ∷ (codes "complete", boolean (is_complete l))
    ∷ (codes "dark", whole l.dark)
    ∷ (codes "dark_of_many", whole (length l.dark_of_many))
    ∷ (codes "displaced", whole l.displaced)
    ∷ (codes "line", whole line)
    ∷ (codes "tasks", whole l.tasks)
    ∷ (codes "tell", string (codes "answer"))
    ∷ (codes "uneven", whole l.uneven)
    ∷ (codes "unplaced", whole l.unplaced)
    ∷ (codes "verdict", string (verdict_word l.verdict))
    ∷ (codes "waiting", whole l.waiting)
    ∷ (codes "waiting_unplaced", whole l.waiting_unplaced)
    ∷ [])

-- a process of several instances of which none is held
unfoldable pub dark_line : ℕ → List ℕ → List ℕ
dark_line line p =
    line_of
    ((codes "line", whole line)
    ∷ (codes "process", string p)
    ∷ (codes "tell", string (codes "dark"))
    ∷ [])

-- a job that is placed
unfoldable pub move_line : ℕ → Move → List ℕ
move_line line m =
    line_of
    ((codes "from", optional_name_data m.from)
    ∷ (codes "job", string (job_text m.job))
    ∷ (codes "line", whole line)
    ∷ (codes "tell", string (codes "move"))
    ∷ (codes "to", string m.to)
    ∷ [])

-- the answer to a loss, and what is under it
abbrev pub lose_lines : ℕ → Lost → List ℕ
lose_lines line l =
    lost_line line l
    ++ (flat_map (tag_line line) l.tags
    ++ (flat_map (unplaced_line line) l.without_room
    ++ (flat_map (dark_line line) l.dark_of_many
    ++ (flat_map (zone_then_line line) l.zones
    ++ (flat_map (move_line line) l.moves)))))
