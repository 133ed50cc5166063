-- What every dump that is read keeps, so that each of its questions has an answer.
use Rattle.std.specs.Prelude.{◌≡◌, ◌≢◌, ℕ, ◌+◌, ◌<◌, ◌≤◌, List, ◌++◌, length, true, All, AllPairs, Contains}
use Rattle.dump_lines.specs.Cells.{has_sound_amounts}
use Rattle.dump_lines.specs.declared.cell_state.CellState.{CellState}
use Rattle.dump_lines.specs.declared.question.Each.{Each}
use Rattle.dump_lines.specs.declared.question.Each.TheVariants.{Zone, Cell, Pair}
use Rattle.dump_lines.specs.declared.question.Question.{Question}
use Rattle.dump_lines.specs.declared.question.Question.TheVariants.{Show, Lose, LoseEach, LoseInTurn, Drain, Fit}
use Rattle.dump_reader.specs.Names.{cells_asked, cells_listed, cells_of_states, instances_on, instances_told, processes_desired, rows_told, tasks_told, wanted_instances, zones_asked, zones_listed, zones_of_states}
use Rattle.dump_reader.specs.declared.dump.Asked.{Asked}
use Rattle.dump_reader.specs.declared.dump.Dump.{Dump}

-- no two are the same
abbrev pub AllDiffer : {X : Type 0} → List X → Type 0
AllDiffer xs = AllPairs (λ a b. a ≢ b) xs

-- no more is free than there is in all, no more containers stand than may, and no instance stands twice
pub record IsCellState (state : CellState) : Type 0 where
  pub amounts : has_sound_amounts state ≡ true
  pub instances : AllDiffer (instances_on state)

-- what is named once: cells by their states, listed cells, tasks, processes and rows
pub record IsNamedOnce (dump : Dump) : Type 0 where
  pub states : AllDiffer (cells_of_states dump)
  pub listed : AllDiffer (cells_listed dump)
  pub tasks : AllDiffer (tasks_told dump)
  pub desired : AllDiffer (processes_desired dump)
  pub actual : AllDiffer (rows_told dump)

-- how much a dump may have
pub record IsWithinLimits (dump : Dump) : Type 0 where
  pub states : length dump.states ≤ 1000
  pub listed : length dump.listed ≤ 1000
  pub tasks : length dump.tasks ≤ 50000
  pub desired : length dump.desired ≤ 100000
  pub wanted : wanted_instances dump ≤ 250000
  pub actual : length dump.actual ≤ 250000
  pub told : instances_told dump ≤ 250000
  pub questions : length dump.questions ≤ 1000

-- what may be asked: pairs of at most 200 cell states, batches of a cell or more, 50,000 instances at most
abbrev pub IsModest : ℕ → Question → Type 0
IsModest states Show = Unit {0}
IsModest states (Lose cells zones) = 0 < length cells + length zones
IsModest states (LoseEach Zone) = Unit {0}
IsModest states (LoseEach Cell) = Unit {0}
IsModest states (LoseEach Pair) = states ≤ 200
IsModest states (LoseInTurn order at_least) = Unit {0}
IsModest states (Drain at_a_time cells) = 0 < at_a_time
IsModest states (Fit process instances demand) = instances ≤ 50000

-- a question names each cell once, and cells and zones that a line names
pub record IsAnswerable (dump : Dump) (question : Question) : Type 0 where
  pub once : AllDiffer (cells_asked question)
  pub cells : All (Contains (cells_of_states dump ++ cells_listed dump)) (cells_asked question)
  pub zones : All (Contains (zones_of_states dump ++ zones_listed dump)) (zones_asked question)
  pub modest : IsModest (length dump.states) question

-- what every dump that is read keeps
pub record IsDump (dump : Dump) : Type 0 where
  pub cells : All IsCellState dump.states
  pub once : IsNamedOnce dump
  pub limits : IsWithinLimits dump
  pub ordinary : All (λ r. r.ordinary ≡ true) dump.actual
  pub questions : All (λ asked. IsAnswerable dump asked.question) dump.questions
