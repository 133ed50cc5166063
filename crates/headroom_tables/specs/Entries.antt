-- What stands in the entries of tables.
use Rattle.std.specs.Prelude.{ℕ, ◌/◌, ◌==◌, ◌-◌, nat_lt, Bool, cond, List, [], ◌∷◌, ◌++◌, length, map, slice_get, Option, None, Some, codes}
use Rattle.std.specs.List.{flat_map}
use Rattle.std.specs.Fmt.{decimal}
use Rattle.forecast_records.specs.declared.spread.ZoneCount.{ZoneCount}
use Rattle.forecast_records.specs.declared.unplaced.Unplaced.{Unplaced}
use Rattle.headroom_print.specs.Words.{lacking}
use Rattle.room_facts.specs.declared.reasons.Reasons.{Reasons}
use Rattle.headroom_tables.specs.Layout.{joined}

-- memory or disk: below 10,240 MB as MB, else as whole GB
unfoldable pub amount : ℕ → List ℕ
amount mb = cond (nat_lt mb 10240) (decimal mb ++ codes "M") (decimal (mb / 1024) ++ codes "G")

-- a tag; a dash for work and cells without one
abbrev pub tag_text : Option (List ℕ) → List ℕ
tag_text None = codes "-"
tag_text (Some tag) = tag

-- names, with a space between them
abbrev pub names_text : List (List ℕ) → List ℕ
names_text names = joined (codes " ") names

-- tags, with a space between them
abbrev pub tags_text : List (Option (List ℕ)) → List ℕ
tags_text tags = joined (codes " ") (map tag_text tags)

-- a zone, and how many instances it has
abbrev pub zone_part : ZoneCount → List ℕ
zone_part z = z.zone ++ (codes " " ++ decimal z.instances)

-- how many instances each zone has
abbrev pub zones_text : List ZoneCount → List ℕ
zones_text zones = joined (codes ", ") (map zone_part zones)

-- the same behind a count: in brackets, and nothing where there is no zone
abbrev pub zones_in_brackets : List ZoneCount → List ℕ
zones_in_brackets zones =
    cond (length zones == 0) [] (codes " (" ++ (zones_text zones ++ codes ")"))

-- how many cells lack just some amounts
abbrev pub lack_part : List ℕ × ℕ → List ℕ
lack_part l = decimal l.1 ++ (codes " " ++ l.0)

-- the same, where one does
abbrev pub lack_parts : List ℕ × ℕ → List (List ℕ)
lack_parts l = cond (l.1 == 0) [] (lack_part l ∷ [])

-- what the cells of a job's tag lack; all cells may be of other tags
abbrev pub lacks_text : Reasons → List ℕ
lacks_text r =
    cond (r.cells == r.other_tag) (codes "none has the tag")
    (joined (codes ", ") (flat_map lack_parts (lacking r)))

-- the bound, where it shows that there is too little: how many jobs are as large, and how many of them have room
abbrev pub bound_text : Unplaced → List ℕ
bound_text u =
    cond (nat_lt u.room_for u.as_large)
    (decimal u.as_large ++ (codes ", room for " ++ decimal u.room_for)) (codes "-")

-- whether a job waited before anything was lost
abbrev pub waited_text : Bool → List ℕ
waited_text waited = cond waited (codes "yes") []

-- a name, if there is one
abbrev pub name_or_nothing : Option (List ℕ) → List ℕ
name_or_nothing None = []
name_or_nothing (Some name) = name

-- the last of some names, if there is one
abbrev pub last_name : List (List ℕ) → List ℕ
last_name names = name_or_nothing (slice_get names (length names - 1))
