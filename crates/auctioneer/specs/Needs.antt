-- What a job asks for at least, and the cells that lack so much.
use Rattle.std.specs.Prelude.{◌≡◌, ◌≤◌, Bool, true, false, ◌&&◌, nat_le}
use Rattle.cell_records.specs.declared.job.Job.{Job}
use Rattle.auctioneer.specs.Stands.{can_take}
use Rattle.auctioneer.specs.declared.needs.Need.{Need}
use Rattle.auctioneer.specs.declared.stand.Stand.{Stand}

-- whether the job asks for at least so much memory and disk
abbrev pub asks_for : Job → Need → Bool
asks_for job need = nat_le need.memory job.memory && nat_le need.disk job.disk

-- no job that asks for so much fits on the cell
abbrev pub LacksRoom : Need → Stand → Type 0
LacksRoom need s = (job : Job) → asks_for job need ≡ true → can_take job s ≡ false

-- the first is at most the second
pub record IsUpTo (need more : Need) : Type 0 where
  pub memory : need.memory ≤ more.memory
  pub disk : need.disk ≤ more.disk
