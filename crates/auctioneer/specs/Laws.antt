-- What holds of every auction, without a word on how the best cell is found.
use Rattle.std.specs.Prelude.{◌≡◌, ◌≤◌, true, false, List, [], ◌∷◌, map}
use Rattle.std.specs.List.{Contains}
use Rattle.cell_records.specs.declared.answer.Answer.{Answer}
use Rattle.cell_records.specs.declared.job.Job.{Job}
use Rattle.cell_records.specs.declared.job_name.JobName.{JobName}
use Rattle.auctioneer.specs.Stands.{can_take, in_zone, placed}
use Rattle.auctioneer.specs.declared.placement.Placement.{Placement}
use Rattle.auctioneer.specs.declared.placement.Placement.TheVariants.{On, NoRoom}
use Rattle.auctioneer.specs.declared.stand.Stand.{Stand}

-- the job that a placement is of
abbrev pub job_in : Placement → JobName
job_in (On job cell) = job
job_in (NoRoom job) = job

-- the cells after a placement
abbrev pub stands_after : Job → Placement → List Stand → List Stand
stands_after job (On name cell) stands = placed job cell stands
stands_after job (NoRoom name) stands = stands

-- there is a placement for each job and no other, and each is right for the cells as its turn found them
abbrev pub AtEachTurn : (List Stand → Job → Placement → Type 0) → List Stand → List Job → List Placement → Type 0
AtEachTurn IsRight stands [] [] = Unit {0}
AtEachTurn IsRight stands [] (p ∷ ps) = ⊥
AtEachTurn IsRight stands (job ∷ jobs) [] = ⊥
AtEachTurn IsRight stands (job ∷ jobs) (p ∷ ps) =
    IsRight stands job p × AtEachTurn IsRight (stands_after job p stands) jobs ps

-- the job's cell was one of those, with its tag and with room for it; where it has none, none had
abbrev pub UsesRoom : List Stand → Job → Placement → Type 0
UsesRoom stands job (On name cell) = (s : Stand) × Contains stands s × (s.cell ≡ cell) × (can_take job s ≡ true)
UsesRoom stands job (NoRoom name) = (s : Stand) → Contains stands s → can_take job s ≡ false

-- no zone with a cell that fits had fewer containers of the job's process than the zone of its cell
abbrev pub Spreads : List Stand → Job → Placement → Type 0
Spreads stands job (On name cell) =
    (a b : Stand) → Contains stands a → a.cell ≡ cell → Contains stands b → can_take job b ≡ true →
    in_zone stands job.job a.zone ≤ in_zone stands job.job b.zone
Spreads stands job (NoRoom name) = Unit {0}

-- the cell is one of those that answered
abbrev pub NamesAnswer : List Answer → Placement → Type 0
NamesAnswer answers (On job cell) = Contains (map (λ a. a.cell) answers) cell
NamesAnswer answers (NoRoom job) = Unit {0}
