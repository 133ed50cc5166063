-- What many commands, one after another, come to.
use Rattle.std.specs.Prelude.{◌≡◌, ◌≤◌, ℕ, List, [], ◌∷◌, length, take, Option, None}
use Rattle.bbs_model.specs.declared.command.Command.{Command}
use Rattle.bbs_model.specs.declared.event.Events.{Events}
use Rattle.bbs_model.specs.declared.rows.Rows.{Rows}
use Rattle.bbs_model.specs.declared.verdict.Verdict.{Verdict}
use Rattle.bbs_model.specs.declared.verdict.Verdict.TheVariants.{Ok, Same, Refused}
use Rattle.bbs_model.specs.Step.{verdict_of, rows_after, events_of}

-- what a verdict chooses: the first only where it is Ok
abbrev pub if_legal : {X : Type 0} → Verdict → X → X → X
if_legal Ok x y = x
if_legal Same x y = y
if_legal (Refused why) x y = y

-- the rows after a command: one that isn't legal leaves them
abbrev pub state_after : Rows → Command → Rows
state_after rows c = if_legal (verdict_of rows c) (rows_after rows c) rows

-- what is told of a command's changes: nothing where it isn't legal
abbrev pub events_after : Rows → Command → Option Events
events_after rows c = if_legal (verdict_of rows c) (events_of rows c) None

-- the rows after commands, one after another
abbrev pub state_after_all : Rows → List Command → Rows
state_after_all rows [] = rows
state_after_all rows (c ∷ cs) = state_after_all (state_after rows c) cs

-- the verdict of each command at the rows after those before it
abbrev pub verdicts_of : Rows → List Command → List Verdict
verdicts_of rows [] = []
verdicts_of rows (c ∷ cs) = verdict_of rows c ∷ verdicts_of (state_after rows c) cs

-- the commands that are legal at the rows after those before them
abbrev pub legal_ones : Rows → List Command → List Command
legal_ones rows [] = []
legal_ones rows (c ∷ cs) =
    let later = legal_ones (state_after rows c) cs in
    if_legal (verdict_of rows c) (c ∷ later) later

-- the rows are those after some first of the commands
pub record IsPartWay (rows : Rows) (cs : List Command) (reached : Rows) : Type 0 where
  pub done : ℕ
  pub within : done ≤ length cs
  pub reaches : reached ≡ state_after_all rows (take done cs)
