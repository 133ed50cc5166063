-- What happens where each goes alone.
use Rattle.std.specs.Prelude.{ℕ, Bool, true, false, ◌||◌, cond, List, [], ◌∷◌, ◌++◌, codes}
use Rattle.std.specs.List.{flat_map}
use Rattle.std.specs.Fmt.{decimal}
use Rattle.dump_lines.specs.declared.question.Each.{Each}
use Rattle.dump_lines.specs.declared.question.Each.TheVariants as each
use Rattle.forecast_records.specs.declared.cases.Case.{Case}
use Rattle.forecast_records.specs.declared.cases.EachLost.{EachLost}
use Rattle.forecast_records.specs.declared.verdict.Verdict.{Verdict}
use Rattle.forecast_records.specs.declared.verdict.Verdict.TheVariants as verdict
use Rattle.headroom_print.specs.Counts.{tried}
use Rattle.headroom_print.specs.Words.{each_word, verdict_word}
use Rattle.headroom_tables.specs.Entries.{names_text, tags_text}
use Rattle.headroom_tables.specs.Layout.{Column, head, left, right, section}

-- how many losses there are of each verdict
unfoldable pub each_counts : EachLost → List (List ℕ)
each_counts e =
    codes "lose each "
    ∷ each_word e.of
    ∷ codes ": tried "
    ∷ decimal (tried e)
    ∷ codes ", room "
    ∷ decimal e.room
    ∷ codes ", short "
    ∷ decimal e.short
    ∷ codes ", unplaced "
    ∷ decimal e.unplaced
    ∷ []

-- the columns of losses
unfoldable pub case_columns : List Column
case_columns =
    left (codes "LOST")
    ∷ right (codes "CELLS")
    ∷ right (codes "NEED ROOM")
    ∷ right (codes "NO ROOM")
    ∷ right (codes "DARK")
    ∷ left (codes "VERDICT")
    ∷ left (codes "TAGS")
    ∷ []

-- a loss, and what it does
unfoldable pub case_row : Case → List (List ℕ)
case_row c =
    names_text c.lost
    ∷ decimal c.cells
    ∷ decimal c.displaced
    ∷ decimal c.unplaced
    ∷ decimal c.dark_of_many
    ∷ verdict_word c.verdict
    ∷ tags_text c.tags
    ∷ []

-- whether something has no room
abbrev pub is_bad : Verdict → Bool
is_bad verdict.Room = false
is_bad verdict.Unplaced = true
is_bad verdict.Short = true

-- whether zones were lost
abbrev pub is_of_zones : Each → Bool
is_of_zones each.Zone = true
is_of_zones each.Cell = false
is_of_zones each.Pair = false

-- a loss that finds room is left out, but for zones
abbrev pub case_rows : Each → Case → List (List (List ℕ))
case_rows kind c = cond (is_of_zones kind || is_bad c.verdict) (case_row c ∷ []) []

-- the answer
abbrev pub each_text : EachLost → List ℕ
each_text e = head (each_counts e) e.verdict ++ section case_columns (flat_map (case_rows e.of) e.cases)
