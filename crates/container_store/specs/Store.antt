-- What a cell keeps of its containers, and what they leave of what the cell has.
use Rattle.std.specs.Prelude.{ℕ, ◌-◌, ◌≡◌, ◌≤◌, ◌<◌, ◌^◌, min, List, [], length, sum_by, Option, find}
use Rattle.std.specs.List.{All}
use Rattle.std.specs.Ordering.{nat_cmp}
use Rattle.cell_records.specs.declared.amounts.Amounts.{Amounts}
use Rattle.cell_records.specs.declared.container.Container.{Container}
use Rattle.diego_names.specs.declared.instance.Instance.{Instance}
use Rattle.lrp_records.specs.States.{is_same_instance}
use Rattle.row_tables.specs.Table.{IsRising}

-- what the cell has in all, the epoch under which it joined, its containers in order of number, and
-- the last number that it gave
pub record StoreView : Type 0 where
  pub totals : Amounts
  pub epoch : ℕ
  pub containers : List Container
  pub last : ℕ

-- a cell that has just joined
abbrev pub new_store : Amounts → ℕ → StoreView
new_store totals epoch = record { totals = totals; epoch = epoch; containers = []; last = 0 }

-- what containers are ordered by
abbrev pub number_of : Container → ℕ
number_of c = c.instance.number

-- the memory of all its containers, in MB
abbrev pub used_memory : StoreView → ℕ
used_memory s = sum_by (λ (c : Container). c.memory) s.containers

-- the disk of all its containers, in MB
abbrev pub used_disk : StoreView → ℕ
used_disk s = sum_by (λ (c : Container). c.disk) s.containers

-- what the containers leave; there are no more slots than numbers of 32 bits that were never given
abbrev pub free_of : StoreView → Amounts
free_of s = record {
  memory = s.totals.memory - used_memory s;
  disk = s.totals.disk - used_disk s;
  containers = min (s.totals.containers - length s.containers) (4294967295 - s.last);
}

-- the container of that instance
abbrev pub find_container : Instance → List Container → Option Container
find_container i cs = find (λ c. is_same_instance i c.instance) cs

-- the container has this epoch, and a number from 1 to the last one
pub record IsGiven (epoch last : ℕ) (c : Container) : Type 0 where
  pub epoch_is : c.instance.epoch ≡ epoch
  pub counted : 1 ≤ c.instance.number
  pub known : c.instance.number ≤ last

-- what holds of every store: numbers strictly rise and were given by it, no amount is passed, and
-- the last number fits 32 bits
pub record IsStore (s : StoreView) : Type 0 where
  pub rising : IsRising nat_cmp number_of s.containers
  pub given : All (IsGiven s.epoch s.last) s.containers
  pub memory : used_memory s ≤ s.totals.memory
  pub disk : used_disk s ≤ s.totals.disk
  pub slots : length s.containers ≤ s.totals.containers
  pub fits : s.last < 2 ^ 32
