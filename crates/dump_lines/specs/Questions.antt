-- What a question asks. Unlike other lines, it has no members but its own.
use Rattle.std.specs.Prelude.{ℕ, List, [], ◌∷◌, codes, Bool, false, ◌&&◌, ◌||◌, ◌==◌, length, Option, Some, None, option_and_then, Result, Ok, Err, if◌then◌else◌}
use Rattle.std.specs.List.{list_all}
use Rattle.std.specs.Option.{option_map_or}
use Rattle.std.specs.Str.{bytes_eq}
use Rattle.serde_json.specs.Data.{Data, Members, no_members, member}
use Rattle.serde_json.specs.Find.{as_object}
use Rattle.dump_lines.specs.Cells.{demand_of}
use Rattle.dump_lines.specs.Faults.{◌>>=◌, ◌&◌, or_shape}
use Rattle.dump_lines.specs.Listing.{all_in}
use Rattle.dump_lines.specs.Members.{has, number_in, number_or, optional, said, text_in}
use Rattle.dump_lines.specs.Values.{name_as, name_said}
use Rattle.dump_lines.specs.declared.fault.LineFault.{LineFault}
use Rattle.dump_lines.specs.declared.fault.LineFault.TheVariants.{BadShape}
use Rattle.dump_lines.specs.declared.question.Each.{Each}
use Rattle.dump_lines.specs.declared.question.Each.TheVariants as each
use Rattle.dump_lines.specs.declared.question.Question.{Question}
use Rattle.dump_lines.specs.declared.question.Question.TheVariants as question
use Rattle.dump_lines.specs.declared.question.TurnOrder.{TurnOrder}
use Rattle.dump_lines.specs.declared.question.TurnOrder.TheVariants.{Fullest, ByName, Given}
use Rattle.dump_lines.specs.declared.question_in.Ask.{Ask}
use Rattle.dump_lines.specs.declared.question_in.Ask.TheVariants.{Show, Lose, LoseEach, LoseInTurn, Drain, Fit}

-- what is asked, by its word
abbrev pub ask_named : List ℕ → Option Ask
ask_named word =
    if bytes_eq word (codes "show") then Some Show
    else (if bytes_eq word (codes "lose") then Some Lose
    else (if bytes_eq word (codes "lose_each") then Some LoseEach
    else (if bytes_eq word (codes "lose_in_turn") then Some LoseInTurn
    else (if bytes_eq word (codes "drain") then Some Drain
    else (if bytes_eq word (codes "fit") then Some Fit
    else None)))))

-- what a line asks
unfoldable pub ask_in : Data → Option Ask
ask_in d = option_and_then ask_named (text_in (codes "ask") d)

-- a question of this kind may have a member of this name
abbrev pub is_known : Ask → List ℕ → Bool
is_known Show name = bytes_eq name (codes "ask")
is_known Lose name = bytes_eq name (codes "ask") || bytes_eq name (codes "cells") || bytes_eq name (codes "zones")
is_known LoseEach name = bytes_eq name (codes "ask") || bytes_eq name (codes "of")
is_known LoseInTurn name =
    bytes_eq name (codes "ask") || bytes_eq name (codes "order") || bytes_eq name (codes "cells")
    || bytes_eq name (codes "at_least")
is_known Drain name = bytes_eq name (codes "ask") || bytes_eq name (codes "at_a_time") || bytes_eq name (codes "cells")
is_known Fit name =
    bytes_eq name (codes "ask") || bytes_eq name (codes "instances") || bytes_eq name (codes "memory")
    || bytes_eq name (codes "disk") || bytes_eq name (codes "tag") || bytes_eq name (codes "process")

-- the names of an object's members
abbrev pub names_given : Members → List (List ℕ)
names_given no_members = []
names_given (member name d members) = name ∷ names_given members

-- a question has no members but those of its kind
unfoldable pub has_only : Ask → Data → Bool
has_only ask d = option_map_or (λ members. list_all (is_known ask) (names_given members)) (as_object d) false

-- these cells and zones go, of which there is one at least
unfoldable pub lose_of : Result (List (List ℕ)) LineFault → Result (List (List ℕ)) LineFault → Result Question LineFault
lose_of cells zones = do
  (cells, zones) ← cells & zones
  if (length cells == 0) && (length zones == 0) then Err BadShape else Ok (question.Lose cells zones)

-- the cells and zones of a line go
unfoldable pub lose_in : Data → Result Question LineFault
lose_in d = lose_of (all_in name_as (codes "cells") d) (all_in name_as (codes "zones") d)

-- what goes alone, by its word
abbrev pub each_named : List ℕ → Option Each
each_named word =
    if bytes_eq word (codes "zone") then Some each.Zone
    else (if bytes_eq word (codes "cell") then Some each.Cell
    else (if bytes_eq word (codes "pair") then Some each.Pair
    else None))

-- what goes alone
unfoldable pub each_in : Data → Option Each
each_in d = option_and_then each_named (text_in (codes "of") d)

-- each goes alone
unfoldable pub lose_each_in : Data → Result Question LineFault
lose_each_in d = or_shape (each_in d) >>= λ of. Ok (question.LoseEach of)

-- an order for which no cells are given
unfoldable pub without_cells : TurnOrder → Data → Result TurnOrder LineFault
without_cells order d = if has (codes "cells") d then Err BadShape else Ok order

-- a list that names cells names one at least
abbrev pub some_cells : List (List ℕ) → Result (List (List ℕ)) LineFault
some_cells cells = if length cells == 0 then Err BadShape else Ok cells

-- the cells that a line lists
unfoldable pub cells_in : Data → Result (List (List ℕ)) LineFault
cells_in d = all_in name_as (codes "cells") d >>= some_cells

-- the order in which cells are given
unfoldable pub given_in : Data → Result TurnOrder LineFault
given_in d = if has (codes "cells") d then (cells_in d >>= λ cells. Ok (Given cells)) else Err BadShape

-- the order in which cells go, by its word
unfoldable pub order_named : List ℕ → Data → Result TurnOrder LineFault
order_named word d =
    if bytes_eq word (codes "fullest") then without_cells Fullest d
    else (if bytes_eq word (codes "name") then without_cells ByName d
    else (if bytes_eq word (codes "given") then given_in d
    else Err BadShape))

-- the order in which cells go
unfoldable pub order_in : Data → Result TurnOrder LineFault
order_in d = or_shape (text_in (codes "order") d) >>= λ word. order_named word d

-- cells go in turn, and each tag has to survive one loss, or as many as the line says
unfoldable pub turns_in : Result TurnOrder LineFault → Data → Result Question LineFault
turns_in order d = order & number_or 1 (codes "at_least") d >>= λ (order, at_least). Ok (question.LoseInTurn order at_least)

-- the cells that are drained, where they are listed
unfoldable pub drained_in : Data → Result (Option (List (List ℕ))) LineFault
drained_in d = if has (codes "cells") d then (cells_in d >>= λ cells. Ok (Some cells)) else Ok None

-- a batch has one cell at least
abbrev pub as_batch : ℕ → Result ℕ LineFault
as_batch at_a_time = if at_a_time == 0 then Err BadShape else Ok at_a_time

-- how many cells a batch has at most
unfoldable pub batch_in : Data → Result ℕ LineFault
batch_in d = number_in (codes "at_a_time") d >>= as_batch

-- cells are drained
unfoldable pub drain_in : Result (Option (List (List ℕ))) LineFault → Data → Result Question LineFault
drain_in cells d = batch_in d & cells >>= λ (at_a_time, cells). Ok (question.Drain at_a_time cells)

-- the tag of what is to find room
unfoldable pub tag_given : Data → Result (Option (List ℕ)) LineFault
tag_given d = optional None (λ tag. name_as tag >>= λ name. Ok (Some name)) (said (codes "tag") d)

-- the process of what is to find room: `new` where none is named
unfoldable pub process_in : Data → Result (List ℕ) LineFault
process_in d = named (said (codes "process") d)
  where
    named : Option Data → Result (List ℕ) LineFault
    named None = name_said (codes "new")
    named (Some process) = name_as process

-- so many instances are to find room
unfoldable pub fit_in : Data → Result Question LineFault
fit_in d = do
  (asked, demand) ←
      process_in d & number_in (codes "instances") d
      & demand_of (number_in (codes "memory") d) (number_in (codes "disk") d) (tag_given d)
  Ok (question.Fit asked.0 asked.1 demand)

-- what a question of this kind asks
unfoldable pub question_as : Ask → Data → Result Question LineFault
question_as Show d = Ok question.Show
question_as Lose d = lose_in d
question_as LoseEach d = lose_each_in d
question_as LoseInTurn d = turns_in (order_in d) d
question_as Drain d = drain_in (drained_in d) d
question_as Fit d = fit_in d

-- what a line with `ask` asks
unfoldable pub question_in : Data → Result Question LineFault
question_in d = or_shape (ask_in d) >>= λ ask. if has_only ask d then question_as ask d else Err BadShape
