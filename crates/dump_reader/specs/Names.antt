-- What a dump and its questions name.
use Rattle.std.specs.Prelude.{ℕ, List, [], ◌++◌, map, sum_by, length, Option, Some, None}
use Rattle.diego_names.specs.declared.key.Key.{Key}
use Rattle.dump_lines.specs.declared.cell_state.CellState.{CellState}
use Rattle.dump_lines.specs.declared.cell_state.InstanceOnCell.{InstanceOnCell}
use Rattle.dump_lines.specs.declared.question.Question.{Question}
use Rattle.dump_lines.specs.declared.question.Question.TheVariants.{Show, Lose, LoseEach, LoseInTurn, Drain, Fit}
use Rattle.dump_lines.specs.declared.question.TurnOrder.{TurnOrder}
use Rattle.dump_lines.specs.declared.question.TurnOrder.TheVariants.{Fullest, ByName, Given}
use Rattle.dump_reader.specs.declared.dump.Dump.{Dump}

-- the cells that told their state
abbrev pub cells_of_states : Dump → List (List ℕ)
cells_of_states dump = map (λ s. s.place.cell) dump.states

-- the cells that are listed
abbrev pub cells_listed : Dump → List (List ℕ)
cells_listed dump = map (λ p. p.cell) dump.listed

-- the tasks that lines name
abbrev pub tasks_told : Dump → List (List ℕ)
tasks_told dump = map (λ t. t.task) dump.tasks

-- the processes that are desired
abbrev pub processes_desired : Dump → List (List ℕ)
processes_desired dump = map (λ d. d.process) dump.desired

-- the instances that have an ordinary row
abbrev pub rows_told : Dump → List Key
rows_told dump = map (λ r. r.instance) dump.actual

-- the zones of the cells that told their state
abbrev pub zones_of_states : Dump → List (List ℕ)
zones_of_states dump = map (λ s. s.place.zone) dump.states

-- the zones of the cells that are listed
abbrev pub zones_listed : Dump → List (List ℕ)
zones_listed dump = map (λ p. p.zone) dump.listed

-- the instance that a container is of
abbrev pub instance_of : InstanceOnCell → Key
instance_of i = record { process = i.process; index = i.index }

-- the instances that have a container on a cell, in their order
abbrev pub instances_on : CellState → List Key
instances_on state = map instance_of state.instances

-- how many instances are wanted by the desired lines
abbrev pub wanted_instances : Dump → ℕ
wanted_instances dump = sum_by (λ d. d.instances) dump.desired

-- how many instances have a container, with those that have ended
abbrev pub instances_told : Dump → ℕ
instances_told dump = sum_by (λ s. length s.instances) dump.states

-- the cells in an order that are given
abbrev pub cells_given : TurnOrder → List (List ℕ)
cells_given Fullest = []
cells_given ByName = []
cells_given (Given cells) = cells

-- the cells of a list, where there is one
abbrev pub cells_if_listed : Option (List (List ℕ)) → List (List ℕ)
cells_if_listed None = []
cells_if_listed (Some cells) = cells

-- the cells that a question names
abbrev pub cells_asked : Question → List (List ℕ)
cells_asked Show = []
cells_asked (Lose cells zones) = cells
cells_asked (LoseEach of) = []
cells_asked (LoseInTurn order at_least) = cells_given order
cells_asked (Drain at_a_time cells) = cells_if_listed cells
cells_asked (Fit process instances demand) = []

-- the zones that a question names
abbrev pub zones_asked : Question → List (List ℕ)
zones_asked Show = []
zones_asked (Lose cells zones) = zones
zones_asked (LoseEach of) = []
zones_asked (LoseInTurn order at_least) = []
zones_asked (Drain at_a_time cells) = []
zones_asked (Fit process instances demand) = []
