-- The cells that told their state, and the orders in which they go. Silent cells are none of them.
use Rattle.std.specs.Prelude.{ℕ, Bool, List, Option, map, filter, find, filter_map}
use Rattle.std.specs.Option.{option_eq}
use Rattle.std.specs.Ordering.{nat_cmp, on, flip_args, then_cmp}
use Rattle.std.specs.declared.cmp.Ordering.{Ordering}
use Rattle.row_tables.specs.Table.{table}
use Rattle.diego_names.specs.Order.{name_order}
use Rattle.cell_records.specs.declared.answer.Answer.{Answer}
use Rattle.auctioneer.specs.Spots.{load_in}
use Rattle.auctioneer.specs.Stands.{same_name, stand_of}
use Rattle.site_spread.specs.Groups.{tag_order}
use Rattle.what_if.specs.declared.site.Site.{Site}
use Rattle.loss_cases.specs.declared.cells.Rank.{Rank}
use Rattle.loss_cases.specs.declared.cells.TaggedCell.{TaggedCell}

-- a cell with its zone, its tag and how full it is, as an auction has it
abbrev pub tagged : Answer → TaggedCell
tagged a = record { cell = a.cell; zone = a.zone; tag = a.tag; load = load_in (stand_of a) }

-- the cells that told their state
abbrev pub tagged_cells : Site → List TaggedCell
tagged_cells site = map tagged site.cells

-- whether two tags are one, or both absent
abbrev pub same_tag : Option (List ℕ) → Option (List ℕ) → Bool
same_tag a b = option_eq same_name a b

-- what decides which of the cells is fuller
abbrev pub rank_of : TaggedCell → Rank
rank_of c = record { load = record { 0 = c.load }; cell = c.cell }

-- the fullest first, then by name
abbrev pub rank_order : Rank → Rank → Ordering
rank_order = then_cmp (on (λ r. r.load.0) (flip_args nat_cmp)) (on (λ r. r.cell) name_order)

-- the fullest first
abbrev pub by_load : List TaggedCell → List TaggedCell
by_load cells = table rank_order rank_of cells

-- by name
abbrev pub by_name : List TaggedCell → List TaggedCell
by_name cells = table name_order (λ c. c.cell) cells

-- the cell of that name, if it is one of them
abbrev pub cell_of_name : List TaggedCell → List ℕ → Option TaggedCell
cell_of_name cells name = find (λ c. same_name c.cell name) cells

-- those of them that are named, in the order of the names
abbrev pub as_named : List TaggedCell → List (List ℕ) → List TaggedCell
as_named cells names = filter_map (cell_of_name cells) names

-- the tags of the cells, each once, none first
abbrev pub tags_of : List TaggedCell → List (Option (List ℕ))
tags_of cells = table tag_order (λ t. t) (map (λ c. c.tag) cells)

-- those with the tag
abbrev pub with_tag : Option (List ℕ) → List TaggedCell → List TaggedCell
with_tag tag cells = filter (λ c. same_tag tag c.tag) cells
