-- How many cells of each tag can go one after another.
use Rattle.std.specs.Prelude.{◌≡◌, ℕ, ◌+◌, ◌<◌, ◌≤◌, true, false, not, nat_le, if◌then◌else◌, List, [], ◌∷◌, ◌++◌, map, fold, length, take, min, Option, None}
use Rattle.std.specs.List.{find}
use Rattle.dump_lines.specs.declared.question.TurnOrder.{TurnOrder}
use Rattle.dump_lines.specs.declared.question.TurnOrder.TheVariants.{Fullest, ByName, Given}
use Rattle.forecast_records.specs.declared.cases.Turn.{Turn}
use Rattle.forecast_records.specs.declared.cases.TurnsTaken.{TurnsTaken}
use Rattle.forecast_records.specs.declared.cases.TurnWord.{TurnWord}
use Rattle.forecast_records.specs.declared.cases.TurnWord.TheVariants.{Fullest as InLoad, Name as InName, Given as AsGiven}
use Rattle.forecast_records.specs.declared.verdict.Verdict.{Verdict}
use Rattle.forecast_records.specs.declared.verdict.Verdict.TheVariants.{Room}
use Rattle.what_if.specs.Plans.{planned}
use Rattle.what_if.specs.declared.plan.Plan.{Plan}
use Rattle.what_if.specs.declared.site.Site.{Site}
use Rattle.loss_cases.specs.Cases.{can_go, displaced_left_in, worst}
use Rattle.loss_cases.specs.Cells.{as_named, by_load, by_name, tagged_cells, tags_of, with_tag}
use Rattle.loss_cases.specs.declared.cells.TaggedCell.{TaggedCell}
use Rattle.loss_cases.specs.declared.turns.Leaves.{Leaves}

-- the word of an order
abbrev pub word_of : TurnOrder → TurnWord
word_of Fullest = InLoad
word_of ByName = InName
word_of (Given cells) = AsGiven

-- the cells that told their state, in the order in which they go
abbrev pub in_turn : Site → TurnOrder → List TaggedCell
in_turn site Fullest = by_load (tagged_cells site)
in_turn site ByName = by_name (tagged_cells site)
in_turn site (Given names) = as_named (tagged_cells site) names

-- all of the tag's cells went
abbrev pub all_went : Option (List ℕ) → ℕ → List (List ℕ) → Turn
all_went tag cells gone = record {
  tag = tag;
  cells = cells;
  survived = length gone;
  lost = gone;
  unplaced = 0;
  first = None;
  verdict = Room;
}

-- what a loss leaves: the displaced jobs without room, the first of them, and the verdict
abbrev pub left_by : Plan → Leaves
left_by plan = record {
  unplaced = displaced_left_in plan.without_room;
  first = find (λ u. not u.waited) plan.without_room;
  verdict = plan.verdict;
}

-- the last of the cells that went was too much
abbrev pub one_too_many : Option (List ℕ) → ℕ → ℕ → List (List ℕ) → Leaves → Turn
one_too_many tag cells survived gone left = record {
  tag = tag;
  cells = cells;
  survived = survived;
  lost = gone;
  unplaced = left.unplaced;
  first = left.first;
  verdict = left.verdict;
}

-- the cells that follow go too, one after another, up to the first that leaves a displaced job without room
abbrev pub turn_from : Site → Option (List ℕ) → ℕ → List (List ℕ) → List TaggedCell → Turn
turn_from site tag cells gone [] = all_went tag cells gone
turn_from site tag cells gone (c ∷ cs) =
    if can_go site (gone ++ c.cell ∷ [])
    then turn_from site tag cells (gone ++ c.cell ∷ []) cs
    else one_too_many tag cells (length gone) (gone ++ c.cell ∷ []) (left_by (planned site (gone ++ c.cell ∷ [])))

-- how many cells of the tag can go, in this order
abbrev pub turn_of : Site → Option (List ℕ) → List TaggedCell → Turn
turn_of site tag cells = turn_from site tag (length cells) [] cells

-- how many cells of each tag can go, by tag
abbrev pub turns_in : Site → List TaggedCell → List Turn
turns_in site cells = map (λ tag. turn_of site tag (with_tag tag cells)) (tags_of cells)

-- the least that one survives, and at most so many
abbrev pub least_from : ℕ → List Turn → ℕ
least_from most turns = fold (λ least t. min least t.survived) most turns

-- the least that a tag survives, and 0 where there is none
abbrev pub least_survived : List Turn → ℕ
least_survived [] = 0
least_survived (t ∷ ts) = least_from t.survived (t ∷ ts)

-- room where a tag survives so many losses
abbrev pub verdict_at_least : ℕ → Turn → Verdict
verdict_at_least n t = if nat_le n t.survived then Room else t.verdict

-- these turns; the verdict is the worst of the tags that survive too few
abbrev pub turns_from : TurnWord → ℕ → List Turn → TurnsTaken
turns_from word at_least turns = record {
  order = word;
  at_least = at_least;
  survived = least_survived turns;
  turns = turns;
  verdict = worst (map (verdict_at_least at_least) turns);
}

-- how many cells of each tag can go one after another
abbrev pub turns : Site → TurnOrder → ℕ → TurnsTaken
turns site order at_least = turns_from (word_of order) at_least (turns_in site (in_turn site order))

-- the first so many of the cells can go, one after another, and with the next one they can't, or there is none
pub record Survives (site : Site) (cells : List (List ℕ)) (count : ℕ) : Type 0 where
  pub within : count ≤ length cells
  pub each : (j : ℕ) → 0 < j → j ≤ count → can_go site (take j cells) ≡ true
  pub next : count < length cells → can_go site (take (count + 1) cells) ≡ false

-- what is told of a tag is what its cells survive in their order
abbrev pub TurnsSurvive : Type 0
TurnsSurvive =
    (site : Site) (tag : Option (List ℕ)) (cells : List TaggedCell) →
    Survives site (map (λ c. c.cell) cells) (turn_of site tag cells).survived
