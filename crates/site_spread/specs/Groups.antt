-- The cells of one zone and one tag.
use Rattle.std.specs.Prelude.{ℕ, Bool, ◌&&◌, List, Option}
use Rattle.std.specs.Option.{option_cmp, option_eq}
use Rattle.std.specs.Ordering.{on, then_cmp}
use Rattle.std.specs.declared.cmp.Ordering.{Ordering}
use Rattle.diego_names.specs.Order.{name_order}
use Rattle.cell_records.specs.declared.answer.Answer.{Answer}
use Rattle.auctioneer.specs.Stands.{same_name}
use Rattle.site_spread.specs.declared.group.Group.{Group}

-- tags with none first, then by name
abbrev pub tag_order : Option (List ℕ) → Option (List ℕ) → Ordering
tag_order = option_cmp name_order

-- by zone, then by tag
abbrev pub group_order : Group → Group → Ordering
group_order = then_cmp (on (λ g. g.zone) name_order) (on (λ g. g.tag) tag_order)

-- the zone and the tag of a cell
abbrev pub group_of : Answer → Group
group_of c = record { zone = c.zone; tag = c.tag }

-- whether a zone and a tag are those
abbrev pub is_in : Group → List ℕ → Option (List ℕ) → Bool
is_in g zone tag = same_name g.zone zone && option_eq same_name g.tag tag
