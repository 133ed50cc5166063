-- What jobs leave of what is free.
use Rattle.std.proofs.Common.{◌≡◌, ◌-◌, List, [], ◌∷◌, length, fold, arith}
use Rattle.cell_records.specs.declared.amounts.Amounts.{Amounts}
use Rattle.cell_records.specs.declared.job.Job.{Job}
use Rattle.auction_scoring.specs.Fits.{IsWithin}
use Rattle.auctioneer.specs.Stands.{less}

pub within_less : (js : List Job) (free totals : Amounts) → IsWithin free totals → IsWithin (fold less free js) totals
within_less [] free totals h = h
within_less (j ∷ js) free totals h =
    within_less js (less free j) totals
    (record {
      memory = omega (arith, h.memory);
      disk = omega (arith, h.disk);
      containers = omega (arith, h.containers);
    })

-- each takes a container
pub left_containers : (js : List Job) (free : Amounts) → (fold less free js).containers ≡ free.containers - length js
left_containers [] free = omega arith
left_containers (j ∷ js) free =
    let rest : (fold less (less free j) js).containers ≡ free.containers - 1 - length js =
    left_containers js (less free j) in
    omega (arith, rest)
