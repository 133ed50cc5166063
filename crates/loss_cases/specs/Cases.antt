-- The losses that are tried each alone, and what each does.
use Rattle.std.specs.Prelude.{ℕ, ◌==◌, Bool, true, false, not, List, [], ◌∷◌, ◌++◌, map, filter, fold, length, count_by, Option}
use Rattle.diego_names.specs.Order.{name_order}
use Rattle.row_tables.specs.Table.{table}
use Rattle.dump_lines.specs.declared.question.Each.{Each}
use Rattle.dump_lines.specs.declared.question.Each.TheVariants.{Zone, Cell, Pair}
use Rattle.forecast_records.specs.declared.cases.Case.{Case}
use Rattle.forecast_records.specs.declared.cases.EachLost.{EachLost}
use Rattle.forecast_records.specs.declared.unplaced.Unplaced.{Unplaced}
use Rattle.forecast_records.specs.declared.verdict.Verdict.{Verdict}
use Rattle.forecast_records.specs.declared.verdict.Verdict.TheVariants.{Room, Unplaced as IsUnplaced, Short}
use Rattle.site_answers.specs.Losses.{cells_of_zone, dark_of_many}
use Rattle.what_if.specs.Plans.{planned}
use Rattle.site_spread.specs.Spread.{zone_names}
use Rattle.site_spread.specs.Groups.{tag_order}
use Rattle.what_if.specs.Verdicts.{worse}
use Rattle.what_if.specs.declared.plan.Plan.{Plan}
use Rattle.what_if.specs.declared.site.Site.{Site}
use Rattle.loss_cases.specs.Cells.{by_name, tagged_cells, with_tag}
use Rattle.loss_cases.specs.declared.cells.TaggedCell.{TaggedCell}
use Rattle.loss_cases.specs.declared.losses.Loss.{Loss}

-- how many displaced jobs are without room
abbrev pub displaced_left_in : List Unplaced → ℕ
displaced_left_in without = count_by (λ u. not u.waited) without

-- how many jobs without room waited before the loss
abbrev pub waiting_left_in : List Unplaced → ℕ
waiting_left_in without = count_by (λ u. u.waited) without

-- the tags of jobs without room, each once, none first
abbrev pub tags_left_in : List Unplaced → List (Option (List ℕ))
tags_left_in without = table tag_order (λ t. t) (map (λ u. u.tag) without)

-- whether each displaced job finds room where these cells are lost
abbrev pub can_go : Site → List (List ℕ) → Bool
can_go site lost = displaced_left_in (planned site lost).without_room == 0

-- a loss with its plan, and so many processes dark of two instances or more
abbrev pub case_from : Loss → Plan → ℕ → Case
case_from loss plan dark = record {
  lost = loss.names;
  cells = length loss.cells;
  displaced = plan.displaced;
  unplaced = displaced_left_in plan.without_room;
  waiting_unplaced = waiting_left_in plan.without_room;
  dark_of_many = dark;
  tags = tags_left_in plan.without_room;
  verdict = plan.verdict;
}

-- what the loss does, with nothing else lost
abbrev pub case_of : Site → Loss → Case
case_of site loss = case_from loss (planned site loss.cells) (length (dark_of_many site loss.cells))

-- the loss of all cells of a zone
abbrev pub zone_loss : Site → List ℕ → Loss
zone_loss site zone = record { names = zone ∷ []; cells = cells_of_zone site zone }

-- the loss of these cells by their own names
abbrev pub cells_loss : List (List ℕ) → Loss
cells_loss cells = record { names = cells; cells = cells }

-- all cells by name, also silent ones
abbrev pub cell_names : Site → List (List ℕ)
cell_names site = table name_order (λ c. c) (map (λ c. c.cell) site.cells ++ map (λ p. p.cell) site.silent)

-- each zone, by name
abbrev pub each_zone : Site → List Loss
each_zone site = map (zone_loss site) (zone_names site)

-- each of the cells
abbrev pub alone : List (List ℕ) → List Loss
alone cells = map (λ c. cells_loss (c ∷ [])) cells

-- each cell, by name
abbrev pub each_cell : Site → List Loss
each_cell site = alone (cell_names site)

-- the cell with each of the others that has its tag
abbrev pub pairs_with : TaggedCell → List TaggedCell → List Loss
pairs_with c others = map (λ d. cells_loss (c.cell ∷ d.cell ∷ [])) (with_tag c.tag others)

-- each two of the cells that have one tag, in their order
abbrev pub pairs_in : List TaggedCell → List Loss
pairs_in [] = []
pairs_in (c ∷ cs) = pairs_with c cs ++ pairs_in cs

-- what the loss of the cell alone does
abbrev pub alone_case : Site → TaggedCell → Case
alone_case site c = case_of site (cells_loss (c.cell ∷ []))

-- whether the cell can go alone
abbrev pub goes_alone : Site → TaggedCell → Bool
goes_alone site c = can_go site (c.cell ∷ [])

-- the cells that told their state and can each go alone, by name
abbrev pub can_go_alone : Site → List TaggedCell
can_go_alone site = filter (goes_alone site) (by_name (tagged_cells site))

-- each cell that told its state, then each two of one tag of which either can go alone
abbrev pub each_pair : Site → List Loss
each_pair site = alone (map (λ c. c.cell) (by_name (tagged_cells site))) ++ pairs_in (can_go_alone site)

-- the losses that are tried
abbrev pub losses_of : Site → Each → List Loss
losses_of site Zone = each_zone site
losses_of site Cell = each_cell site
losses_of site Pair = each_pair site

-- whether all find room, whether it is shown that they can't, and whether neither is so
abbrev pub is_room : Verdict → Bool
is_room Room = true
is_room IsUnplaced = false
is_room Short = false

abbrev pub is_short : Verdict → Bool
is_short Room = false
is_short IsUnplaced = false
is_short Short = true

abbrev pub is_unplaced : Verdict → Bool
is_unplaced Room = false
is_unplaced IsUnplaced = true
is_unplaced Short = false

-- whether a case is told: of pairs those alone that don't find room
abbrev pub is_told : Each → Case → Bool
is_told Zone case = true
is_told Cell case = true
is_told Pair case = not (is_room case.verdict)

-- the worst of the verdicts
abbrev pub worst : List Verdict → Verdict
worst verdicts = fold worse Room verdicts

-- so many losses of each verdict, and the cases that are told
abbrev pub each_from : Each → List Verdict → List Case → EachLost
each_from of verdicts told = record {
  of = of;
  room = count_by is_room verdicts;
  unplaced = count_by is_unplaced verdicts;
  short = count_by is_short verdicts;
  cases = told;
  verdict = worst verdicts;
}

-- these cases, counted by their verdicts
abbrev pub each_of : Each → List Case → EachLost
each_of of cases = each_from of (map (λ c. c.verdict) cases) (filter (is_told of) cases)

-- what happens where each goes alone
abbrev pub each_lost : Site → Each → EachLost
each_lost site of = each_of of (map (case_of site) (losses_of site of))
