-- The lines of faults that only a pair has.
use Rattle.std.specs.Prelude.{ℕ, List, ◌++◌, codes}
use Rattle.std.specs.Fmt.{decimal}
use Rattle.disk_trait.specs.declared.area.Area.{Area}
use Rattle.disk_trait.specs.declared.area.Area.TheVariants.{A, B}

-- the line of two boards whose rows differ
abbrev pub unequal_line : List ℕ
unequal_line = codes "{\"fault\":\"unequal\"}\n"

-- the line of an area of the standby that isn't one of a board
abbrev pub standby_no_board_line : Area → List ℕ
standby_no_board_line A = codes "{\"area\":\"standby a\",\"at\":0,\"fault\":\"not a board\"}\n"
standby_no_board_line B = codes "{\"area\":\"standby b\",\"at\":0,\"fault\":\"not a board\"}\n"

-- the word of an area of the standby
abbrev pub standby_area_word : Area → List ℕ
standby_area_word A = codes "standby a"
standby_area_word B = codes "standby b"

-- the line of a defect at a place of an area of the standby
abbrev pub standby_damaged_text : Area → ℕ → List ℕ
standby_damaged_text area at =
    codes "{\"area\":\""
    ++ (standby_area_word area ++ (codes "\",\"at\":" ++ (decimal at ++ codes ",\"fault\":\"damaged\"}\n")))

-- the line of a script that has a line which is no client's
abbrev pub other_line_text : ℕ → List ℕ
other_line_text line = codes "{\"fault\":\"not a pair script\",\"line\":" ++ (decimal line ++ codes "}\n")
