-- The answer to losses in turn, and its turns.
use Rattle.std.specs.Prelude.{ℕ, List, [], ◌∷◌, ◌++◌, codes}
use Rattle.std.specs.List.{flat_map}
use Rattle.serde_json.specs.Data.{string}
use Rattle.forecast_records.specs.declared.cases.Turn.{Turn}
use Rattle.forecast_records.specs.declared.cases.TurnsTaken.{TurnsTaken}
use Rattle.line_writing.specs.Spelled.{optional_name_data, whole}
use Rattle.headroom_print.specs.UnplacedLines.{first_line}
use Rattle.headroom_print.specs.Values.{line_of, names_data}
use Rattle.headroom_print.specs.Words.{order_word, verdict_word}

-- how many cells can go in turn
unfoldable pub turns_line : ℕ → TurnsTaken → List ℕ
turns_line line t =
    line_of
    ((codes "answer", string (codes "lose_in_turn"))
    ∷ (codes "at_least", whole t.at_least)
    ∷ (codes "line", whole line)
    ∷ (codes "order", string (order_word t.order))
    ∷ (codes "survived", whole t.survived)
    ∷ (codes "tell", string (codes "answer"))
    ∷ (codes "verdict", string (verdict_word t.verdict))
    ∷ [])

-- how many cells of a tag can go
unfoldable pub turn_line : ℕ → Turn → List ℕ
turn_line line t =
    line_of
    ((codes "cells", whole t.cells)
    ∷ (codes "line", whole line)
    ∷ (codes "lost", names_data t.lost)
    ∷ (codes "survived", whole t.survived)
    ∷ (codes "tag", optional_name_data t.tag)
    ∷ (codes "tell", string (codes "turn"))
    ∷ (codes "unplaced", whole t.unplaced)
    ∷ (codes "verdict", string (verdict_word t.verdict))
    ∷ [])

-- how many cells of a tag can go, and the first job without room then
abbrev pub turn_lines : ℕ → Turn → List ℕ
turn_lines line t =
    turn_line line t
    ++ (first_line line t.first)

-- the answer to losses in turn, and what is under it
abbrev pub lose_in_turn_lines : ℕ → TurnsTaken → List ℕ
lose_in_turn_lines line t =
    turns_line line t
    ++ (flat_map (turn_lines line) t.turns)
