-- The facts of a dump that are modelled otherwise.
use Rattle.std.specs.Prelude.{ℕ, List, [], ◌∷◌, map, codes}
use Rattle.forecast_records.specs.declared.notes.Notes.{Notes}
use Rattle.headroom_print.specs.declared.notes.Note.{Note}

-- all notes in their order: the words of each, and its count
abbrev pub notes_of : Notes → List (List ℕ × ℕ)
notes_of n =
    (codes "instances from containers", n.instances_from_containers)
    ∷ (codes "optional tags", n.optional_tags)
    ∷ (codes "proxy memory", n.proxy_memory)
    ∷ (codes "rows of no cell", n.rows_of_no_cell)
    ∷ (codes "silent cells", n.silent_cells)
    ∷ (codes "strays", n.strays)
    ∷ (codes "volume drivers", n.volume_drivers)
    ∷ []

-- what the code's pairs of words and a count say
abbrev pub told_of : List Note → List (List ℕ × ℕ)
told_of notes = map (λ n. (n.0.now, n.1)) notes
