-- The reps of the cells among the actors.
use Rattle.std.specs.Prelude.{◌≡◌, List, [], ◌∷◌, Option, Some, None}
use Rattle.std.specs.List.{filter_map}
use Rattle.cell_rep.specs.Reps.{new_rep}
use Rattle.cell_rep.specs.declared.rep.CellRep.{CellRep}
use Rattle.phase_actors.specs.declared.actor_state.ActorState.{ActorState}
use Rattle.phase_actors.specs.declared.actor_state.ActorState.TheVariants.{Client, Cell}

-- a cell's rep
abbrev pub rep_of : ActorState → Option CellRep
rep_of (Client name) = None
rep_of (Cell rep) = Some rep

-- the reps of the cells, in the order of the actors
abbrev pub reps_of : List ActorState → List CellRep
reps_of actors = filter_map rep_of actors

-- the actor while its rep is away: one that has not joined stands for it
abbrev pub bare : ActorState → ActorState
bare (Client name) = Client name
bare (Cell rep) = Cell (new_rep rep.cell)

-- the actors with these reps in their cells, in order
abbrev pub with_reps : List ActorState → List CellRep → List ActorState
with_reps [] reps = []
with_reps (Client name ∷ rest) reps = Client name ∷ with_reps rest reps
with_reps (Cell rep ∷ rest) [] = Cell rep ∷ with_reps rest []
with_reps (Cell rep ∷ rest) (new ∷ more) = Cell new ∷ with_reps rest more

-- the next rep is put into the next actor, if that is a cell
abbrev pub PutsNext : ActorState → List CellRep → ActorState → List CellRep → Type 0
PutsNext a reps a' reps' = (rest : List ActorState) → with_reps (a ∷ rest) reps ≡ a' ∷ with_reps rest reps'
