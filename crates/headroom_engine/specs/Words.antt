-- The words that the program is started with.
use Rattle.std.specs.Prelude.{ℕ, List, [], ◌∷◌, Option, Some, None, codes, if◌then◌else◌}
use Rattle.std.specs.Str.{bytes_eq}
use Rattle.headroom_engine.specs.declared.words.Asked.{Asked}
use Rattle.headroom_engine.specs.declared.words.Asked.TheVariants.{Lines, Table}

-- what one word asks for
abbrev pub asked_by_word : List ℕ → Option Asked
asked_by_word word =
    if bytes_eq word (codes "lines") then Some Lines
    else (if bytes_eq word (codes "table") then Some Table
    else None)

-- what the program's name and one word behind it ask for
abbrev pub asked_of : List (List ℕ) → Option Asked
asked_of (program ∷ word ∷ []) = asked_by_word word
asked_of _ = None
