-- The two forms of acts: those of one call at most, and those of a call for each container.
use Rattle.std.specs.Prelude.{◌≡◌, Result, Ok, Err}
use Rattle.container_store.specs.declared.refusal.ReserveFault.{ReserveFault}
use Rattle.container_store.specs.declared.refusal.ReserveFault.TheVariants.{Refused, OutOfMemory}
use Rattle.diego_names.specs.declared.memory.OutOfMemory.{OutOfMemory as NoMemory}
use Rattle.cell_rep.specs.declared.call_end.RepRefusal.TheVariants.{Store}
use Rattle.cell_rep.specs.declared.cell_act.CellAct.{CellAct}
use Rattle.cell_rep.specs.declared.cell_act.CellAct.TheVariants as act
use Rattle.cell_rep.specs.declared.todo.Todo.{Todo}
use Rattle.cell_rep.specs.declared.todo.Todo.TheVariants.{Local}

-- the act makes one call at most
abbrev pub IsOfOne : CellAct → Type 0
IsOfOne (act.Up job) = ⊥
IsOfOne act.Settle = ⊥
IsOfOne a = Unit {0}

-- the act makes a call for each of some containers
abbrev pub IsOfEach : CellAct → Type 0
IsOfEach (act.Up job) = Unit {0}
IsOfEach act.Settle = Unit {0}
IsOfEach a = ⊥

-- a claim that was refused is told so, and want of memory as such
abbrev pub IsToldRefused : ReserveFault → Result Todo NoMemory → Type 0
IsToldRefused (Refused why) told = told ≡ Ok (Local (Store why))
IsToldRefused OutOfMemory told = told ≡ Err (record {})
