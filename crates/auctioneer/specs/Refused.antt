-- Sizes of jobs that no cell has room for.
use Rattle.std.specs.Prelude.{◌≡◌, Bool, true, ◌&&◌, List, nat_eq, nat_le}
use Rattle.std.specs.Cmp.Lexicographic.{pointwise}
use Rattle.std.specs.List.{All}
use Rattle.std.specs.Option.{option_eq}
use Rattle.cell_records.specs.declared.job.Job.{Job}
use Rattle.auctioneer.specs.Least.{NoneFits}
use Rattle.auctioneer.specs.declared.refused.Size.{Size}
use Rattle.auctioneer.specs.declared.stand.Stand.{Stand}

-- what a job asks for
abbrev pub size_of : Job → Size
size_of job = record { tag = job.tag; memory = job.memory; disk = job.disk }

-- whether the job asks for at least so much memory and disk, under the same tag
abbrev pub asks_as_much : Job → Size → Bool
asks_as_much job size =
    option_eq (pointwise nat_eq) job.tag size.tag && (nat_le size.memory job.memory && nat_le size.disk job.disk)

-- no job that asks for so much fits on any of the cells
abbrev pub FitsNowhere : List Stand → Size → Type 0
FitsNowhere stands size = (job : Job) → asks_as_much job size ≡ true → NoneFits job stands

-- that is so of each of these sizes
abbrev pub AreRefused : List Stand → List Size → Type 0
AreRefused stands refused = All (FitsNowhere stands) refused
