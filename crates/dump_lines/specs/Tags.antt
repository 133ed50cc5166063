-- Placement tags: one at most is modelled.
use Rattle.std.specs.Prelude.{ℕ, List, [], ◌∷◌, codes, nat_eq, Option, Some, None, Result, Ok, Err, if◌then◌else◌}
use Rattle.std.specs.Cmp.Lexicographic.{pointwise}
use Rattle.serde_json.specs.Data.{Data}
use Rattle.dump_lines.specs.Faults.{◌>>=◌, ◌&◌, or_shape}
use Rattle.dump_lines.specs.Members.{optional, said}
use Rattle.dump_lines.specs.Values.{list_said, name_as}
use Rattle.dump_lines.specs.declared.fault.LineFault.{LineFault}
use Rattle.dump_lines.specs.declared.fault.LineFault.TheVariants.{BadTags}

-- the one tag of two that are told
abbrev pub same_tag : Option (List ℕ) → List ℕ → Result (Option (List ℕ)) LineFault
same_tag None tag = Ok (Some tag)
same_tag (Some other) tag = if pointwise nat_eq other tag then Ok (Some tag) else Err BadTags

-- the tag so far, and one more
abbrev pub with_tag : Result (Option (List ℕ)) LineFault → Result (List ℕ) LineFault → Result (Option (List ℕ)) LineFault
with_tag so_far tag = so_far & tag >>= λ (one, other). same_tag one other

-- the one tag of those so far and of all that values name
abbrev pub tags_from : Result (Option (List ℕ)) LineFault → List Data → Result (Option (List ℕ)) LineFault
tags_from so_far [] = so_far
tags_from so_far (d ∷ ds) = tags_from (with_tag so_far (name_as d)) ds

-- the one tag of a list, if it has one
unfoldable pub tag_as : Data → Result (Option (List ℕ)) LineFault
tag_as d = or_shape (list_said d) >>= tags_from (Ok None)

-- the tag in the list of a member
unfoldable pub tag_in : List ℕ → Data → Result (Option (List ℕ)) LineFault
tag_in m d = optional None tag_as (said m d)

-- the first of two tags that is there
abbrev pub or_tag : Option (List ℕ) → Option (List ℕ) → Option (List ℕ)
or_tag (Some tag) other = Some tag
or_tag None other = other

-- the same, of two lists
unfoldable pub first_tag_of : Result (Option (List ℕ)) LineFault → Result (Option (List ℕ)) LineFault → Result (Option (List ℕ)) LineFault
first_tag_of one other = one & other >>= λ (one, other). Ok (or_tag one other)

-- the tag of a task or of a process: that of the first of two lists that has one
unfoldable pub first_tag_in : Data → Result (Option (List ℕ)) LineFault
first_tag_in d = first_tag_of (tag_in (codes "placement_tags") d) (tag_in (codes "PlacementTags") d)
