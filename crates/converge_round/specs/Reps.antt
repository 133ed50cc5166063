-- The reps of a round, found by the names of their cells.
use Rattle.std.specs.Prelude.{◌≡◌, ℕ, ◌<◌, List, [], ◌∷◌, length, map, slice_index_or, slice_get, Option, Some, None}
use Rattle.std.specs.List.{Contains}
use Rattle.std.specs.BTreeMap.{get}
use Rattle.diego_names.specs.Order.{name_order}
use Rattle.cell_rep.specs.Laws.{SameJoined}
use Rattle.cell_rep.specs.declared.rep.CellRep.{CellRep}
use Rattle.converge_round.specs.declared.rep_index.RepIndex.{RepIndex}

-- the names of the cells
abbrev pub names_of : List CellRep → List (List ℕ)
names_of reps = map (λ r. r.cell) reps

-- where a name stands, if it does
abbrev pub IsPlaceOf : List (List ℕ) → List ℕ → Option ℕ → Type 0
IsPlaceOf names cell None = Contains names cell → ⊥
IsPlaceOf names cell (Some at) = slice_get names at ≡ Some cell

-- an index finds each name, and no other
pub record IsRepIndex (names : List (List ℕ)) (index : RepIndex) : Type 0 where
  pub finds : (cell : List ℕ) → IsPlaceOf names cell (get name_order index.places cell)

-- the rep of a cell, and its place among all
pub record StandsFor (reps : List CellRep) (cell : List ℕ) (at : ℕ) (rep : CellRep) : Type 0 where
  pub within : at < length reps
  pub is : rep ≡ slice_index_or reps at rep
  pub cell_is : rep.cell ≡ cell

-- no rep is of that cell
abbrev pub HasNoRep : List CellRep → List ℕ → Type 0
HasNoRep reps cell = Contains (names_of reps) cell → ⊥

-- the same rep, but for its containers
pub record SameRep (rep rep' : CellRep) : Type 0 where
  pub cell : rep'.cell ≡ rep.cell
  pub joined : SameJoined rep.joined rep'.joined

-- the same reps, but for the containers of those that have joined
abbrev pub KeepReps : List CellRep → List CellRep → Type 0
KeepReps [] [] = Unit {0}
KeepReps [] (q ∷ qs) = ⊥
KeepReps (r ∷ rs) [] = ⊥
KeepReps (r ∷ rs) (q ∷ qs) = SameRep r q × KeepReps rs qs
