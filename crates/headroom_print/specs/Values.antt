-- What stands in a printed line.
use Rattle.std.specs.Prelude.{ℕ, List, [], ◌∷◌, map, Option, codes}
use Rattle.serde_json.specs.Data.{Data, string, array, object, Members, no_members, member}
use Rattle.serde_json.specs.View.{items_of}
use Rattle.cell_records.specs.declared.amounts.Amounts.{Amounts}
use Rattle.forecast_records.specs.declared.cases.EachLost.{EachLost}
use Rattle.forecast_records.specs.declared.spread.ZoneCount.{ZoneCount}
use Rattle.line_writing.specs.Line.{line_text}
use Rattle.line_writing.specs.Spelled.{optional_name_data, whole}
use Rattle.room_facts.specs.declared.reasons.Reasons.{Reasons}
use Rattle.room_facts.specs.declared.sums.Sums.{Sums}
use Rattle.headroom_print.specs.Words.{lacks}

-- the name of a member, and what it is
abbrev pub Named : Type 0
Named = List ℕ × Data

-- members in their order
abbrev pub members_of : List Named → Members
members_of [] = no_members
members_of (m ∷ ms) = member m.0 m.1 (members_of ms)

-- an object of these members
abbrev pub object_of : List Named → Data
object_of ms = object (members_of ms)

-- the line of an object of these members
abbrev pub line_of : List Named → List ℕ
line_of ms = line_text (object_of ms)

-- names in their order
abbrev pub names_data : List (List ℕ) → Data
names_data names = array (items_of (map string names))

-- tags in their order, null for work without one
abbrev pub tags_data : List (Option (List ℕ)) → Data
tags_data tags = array (items_of (map optional_name_data tags))

-- a count by its name
abbrev pub count_named : List ℕ × ℕ → Named
count_named c = (c.0, whole c.1)

-- how many instances a zone has
abbrev pub zone_named : ZoneCount → Named
zone_named z = (z.zone, whole z.instances)

-- how many instances each zone has
abbrev pub zones_data : List ZoneCount → Data
zones_data zones = object_of (map zone_named zones)

-- amounts, memory and disk in MB
abbrev pub amounts_data : ℕ → ℕ → ℕ → Data
amounts_data containers disk memory =
    object_of
    ((codes "containers", whole containers) ∷ (codes "disk", whole disk) ∷ (codes "memory", whole memory) ∷ [])

-- what many jobs or cells have in all
abbrev pub sums_data : Sums → Data
sums_data s = amounts_data s.containers s.disk s.memory

-- what one cell has
abbrev pub free_data : Amounts → Data
free_data a = amounts_data a.containers a.disk a.memory

-- how many cells lack just these amounts, where some do
abbrev pub lacks_data : Reasons → Data
lacks_data r = object_of (map count_named (lacks r))

-- how many losses there are of each verdict
abbrev pub verdicts_data : EachLost → Data
verdicts_data e =
    object_of
    ((codes "room", whole e.room) ∷ (codes "short", whole e.short) ∷ (codes "unplaced", whole e.unplaced) ∷ [])
