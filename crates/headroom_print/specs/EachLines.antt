-- The answer to losses of which each is alone, and its cases.
use Rattle.std.specs.Prelude.{ℕ, List, [], ◌∷◌, ◌++◌, codes}
use Rattle.std.specs.List.{flat_map}
use Rattle.serde_json.specs.Data.{string}
use Rattle.forecast_records.specs.declared.cases.Case.{Case}
use Rattle.forecast_records.specs.declared.cases.EachLost.{EachLost}
use Rattle.line_writing.specs.Spelled.{whole}
use Rattle.headroom_print.specs.Counts.{tried}
use Rattle.headroom_print.specs.Values.{line_of, names_data, tags_data, verdicts_data}
use Rattle.headroom_print.specs.Words.{each_word, verdict_word}

-- what happens where each goes alone
unfoldable pub each_line : ℕ → EachLost → List ℕ
each_line line e =
    line_of
    ((codes "answer", string (codes "lose_each"))
    ∷ (codes "cases", whole (tried e))
    ∷ (codes "line", whole line)
    ∷ (codes "of", string (each_word e.of))
    ∷ (codes "tell", string (codes "answer"))
    ∷ (codes "verdict", string (verdict_word e.verdict))
    ∷ (codes "verdicts", verdicts_data e)
    ∷ [])

-- one of the losses that are tried
unfoldable pub case_line : ℕ → Case → List ℕ
case_line line c =
    line_of
    ((codes "cells", whole c.cells)
    ∷ (codes "dark_of_many", whole c.dark_of_many)
    ∷ (codes "displaced", whole c.displaced)
    ∷ (codes "line", whole line)
    ∷ (codes "lost", names_data c.lost)
    ∷ (codes "tags", tags_data c.tags)
    ∷ (codes "tell", string (codes "case"))
    ∷ (codes "unplaced", whole c.unplaced)
    ∷ (codes "verdict", string (verdict_word c.verdict))
    ∷ (codes "waiting_unplaced", whole c.waiting_unplaced)
    ∷ [])

-- the answer to losses of which each is alone, and what is under it
abbrev pub lose_each_lines : ℕ → EachLost → List ℕ
lose_each_lines line e =
    each_line line e
    ++ (flat_map (case_line line) e.cases)
