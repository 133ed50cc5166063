-- How the step of a command is told: its causes of refusal in the order in which they are tried, and
-- what it comes to where none of them holds.
use Rattle.std.specs.Prelude.{ℕ, ◌==◌, Bool, List, [], ◌∷◌, Option, Some, None, if◌then◌else◌}
use Rattle.cell_records.specs.declared.cell_row.CellRow.{CellRow}
use Rattle.bbs_model.specs.declared.attempt.Attempt.{Attempt}
use Rattle.bbs_model.specs.declared.attempt.Attempt.TheVariants.{Refuse, Change}
use Rattle.bbs_model.specs.declared.attempt.Edit.TheVariants.{Put, Drop}
use Rattle.bbs_model.specs.declared.event.Row.{Row}
use Rattle.bbs_model.specs.declared.verdict.BoardRefusal.{BoardRefusal}
use Rattle.bbs_model.specs.declared.verdict.BoardRefusal.TheVariants.{Unknown, UnknownCell, StaleEpoch}

-- causes of refusal, each with its condition, in the order in which they are tried
abbrev pub Refusals : Type 0
Refusals = List (Bool × BoardRefusal)

-- the first cause whose condition holds, and else this attempt
abbrev pub unless_refused : Refusals → Attempt → Attempt
unless_refused [] attempt = attempt
unless_refused (c ∷ cs) attempt = if c.0 then Refuse c.1 else unless_refused cs attempt

-- what is asked of a row that there has to be
abbrev pub if_known : {X : Type 0} → Option X → (X → Attempt) → Attempt
if_known None attempt = Refuse Unknown
if_known (Some row) attempt = attempt row

-- what is asked by a cell, which has to have joined, and not anew since this epoch
abbrev pub if_joined : Option CellRow → ℕ → (CellRow → Attempt) → Attempt
if_joined None epoch attempt = Refuse UnknownCell
if_joined (Some row) epoch attempt = if row.epoch == epoch then attempt row else Refuse (StaleEpoch row.epoch)

-- the row is put in its place
abbrev pub put : Row → Attempt
put row = Change (Put row) None

-- the row is taken away
abbrev pub drop_row : Row → Attempt
drop_row row = Change (Drop row) None
