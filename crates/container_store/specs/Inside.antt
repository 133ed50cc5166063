-- What the fields of a store mean.
use Rattle.std.specs.Prelude.{◌≡◌, ℕ, Bool, false, List, [], ◌∷◌, Option, Some, None}
use Rattle.std.specs.BTreeMap.{BTreeMap, get, is_at}
use Rattle.std.specs.BTreeSet.{BTreeSet, contains}
use Rattle.std.specs.Map.{values_of}
use Rattle.std.specs.Ordering.{nat_cmp}
use Rattle.cell_records.specs.declared.container.Container.{Container}
use Rattle.container_store.specs.Entries.{entry_order, entry_of}
use Rattle.container_store.specs.Store.{StoreView, IsStore, number_of, used_memory, used_disk}
use Rattle.container_store.specs.declared.entries.JobEntry.{JobEntry}
use Rattle.container_store.specs.declared.store.Store.TheInside.{Inside}

-- the store that the fields stand for: its containers in order of number
abbrev pub store_view_of : Inside → StoreView
store_view_of s =
    record { totals = s.totals; epoch = s.epoch; containers = values_of s.containers.entries; last = s.last }

-- each container stands under its number
abbrev pub AreNumbered : List (ℕ × Container) → Type 0
AreNumbered [] = Unit {0}
AreNumbered (e ∷ es) = (e.0 ≡ number_of e.1) × AreNumbered es

-- that is the container's entry, if there is one
abbrev pub is_entry_of : JobEntry → Option Container → Bool
is_entry_of q None = false
is_entry_of q (Some c) = is_at (entry_order q) (entry_of c)

-- the set holds the entry of each container, and no other
abbrev pub AreJobsOf : BTreeSet JobEntry → BTreeMap ℕ Container → Type 0
AreJobsOf jobs containers =
    (q : JobEntry) → contains entry_order jobs q ≡ is_entry_of q (get nat_cmp containers q.number)

-- they stand for a store, its containers are found by number and by job, and the sums are theirs
pub record IsInside (s : Inside) : Type 0 where
  pub store : IsStore (store_view_of s)
  pub numbered : AreNumbered s.containers.entries
  pub jobs : AreJobsOf s.jobs s.containers
  pub memory_is : s.used_memory ≡ used_memory (store_view_of s)
  pub disk_is : s.used_disk ≡ used_disk (store_view_of s)
