-- What comes of a reservation that is given up.
use Rattle.std.specs.Prelude.{◌≡◌, ℕ, ◌+◌, Ok}
use Rattle.cell_records.specs.declared.job_name.JobName.{JobName}
use Rattle.container_store.specs.Changes.{next_of, reserved, removing}
use Rattle.container_store.specs.Store.{StoreView, IsStore}

-- the container that was reserved last can be given up, and then its number alone was taken
abbrev pub GivesUp : Type 0
GivesUp = (s : StoreView) (job : JobName) (memory disk : ℕ) → IsStore s →
    removing (reserved s job memory disk) (next_of s) ≡ Ok (record s { last = s.last + 1 })
