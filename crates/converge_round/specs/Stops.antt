-- How containers that are of no use are stopped.
use Rattle.std.specs.Prelude.{◌≡◌, ℕ, Bool, true, false, List, [], ◌∷◌, ◌++◌, set}
use Rattle.diego_names.specs.declared.instance.Instance.{Instance}
use Rattle.cell_rep.specs.Ends.{without}
use Rattle.cell_rep.specs.declared.rep.CellRep.{CellRep}
use Rattle.cell_rep.specs.declared.wire.CallKind.TheVariants.{Stop}
use Rattle.converge_round.specs.Reps.{StandsFor, HasNoRep}
use Rattle.converge_round.specs.Sendings.{WireAt, IsSent}

-- the reps and the wire
pub record Stopping : Type 0 where
  pub wire : WireAt
  pub reps : List CellRep

-- these two
abbrev pub stops_at : WireAt → List CellRep → Stopping
stops_at wire reps = record { wire = wire; reps = reps }

-- the rep of the cell has given the container up
pub record LetsGo (stray : List ℕ × Instance) (reps reps' : List CellRep) : Type 0 where
  pub place : ℕ
  pub rep : CellRep
  pub stands : StandsFor reps stray.0 place rep
  pub is : reps' ≡ set reps place (without rep stray.1)

-- what came of a stop: the container is given up, or it was lost, or there is no such rep
abbrev pub StopsIf : Bool → Bool → List ℕ × Instance → List CellRep → List CellRep → Type 0
StopsIf true true stray reps reps' = LetsGo stray reps reps'
StopsIf true false stray reps reps' = HasNoRep reps stray.0 × (reps' ≡ reps)
StopsIf false true stray reps reps' = ⊥
StopsIf false false stray reps reps' = reps' ≡ reps

-- one stop goes to a cell's rep, and is done or lost
pub record IsStrayStopped (stray : List ℕ × Instance) (done : Bool) (s s' : Stopping) : Type 0 where
  pub reached : Bool
  pub sent : IsSent stray.0 Stop reached s.wire s'.wire
  pub stops : StopsIf reached done stray s.reps s'.reps

-- the stray, if its stop was done
abbrev pub if_done : Bool → List ℕ × Instance → List (List ℕ × Instance)
if_done true stray = stray ∷ []
if_done false stray = []

-- what stops change, and those that were done so far
pub record Stopped : Type 0 where
  pub course : Stopping
  pub stopped : List (List ℕ × Instance)

-- these two
abbrev pub so_far : Stopping → List (List ℕ × Instance) → Stopped
so_far course stopped = record { course = course; stopped = stopped }

-- one stray more
pub record StopsOne (stray : List ℕ × Instance) (s s' : Stopped) : Type 0 where
  pub done : Bool
  pub stops : IsStrayStopped stray done s.course s'.course
  pub stopped : s'.stopped ≡ s.stopped ++ if_done done stray
