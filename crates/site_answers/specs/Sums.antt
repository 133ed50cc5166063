-- Amounts added up.
use Rattle.std.specs.Prelude.{◌+◌, max, List, fold, sum_by}
use Rattle.cell_records.specs.declared.amounts.Amounts.{Amounts}
use Rattle.room_facts.specs.declared.sums.Sums.{Sums}

-- the amounts as sums of 64 bits
abbrev pub as_sums : Amounts → Sums
as_sums a = record { memory = a.memory; disk = a.disk; containers = a.containers }

-- the amounts in all
abbrev pub sums_of : List Amounts → Sums
sums_of amounts = record {
  memory = sum_by (λ a. a.memory) amounts;
  disk = sum_by (λ a. a.disk) amounts;
  containers = sum_by (λ a. a.containers) amounts;
}

-- a sum with these amounts more
abbrev pub with_more : Sums → Amounts → Sums
with_more s a = record {
  memory = s.memory + a.memory;
  disk = s.disk + a.disk;
  containers = s.containers + a.containers;
}

-- of each amount the larger one
abbrev pub larger : Amounts → Amounts → Amounts
larger a b = record {
  memory = max a.memory b.memory;
  disk = max a.disk b.disk;
  containers = max a.containers b.containers;
}

-- of each amount the most
abbrev pub most_of : List Amounts → Amounts
most_of amounts = record {
  memory = fold (λ m a. max m a.memory) 0 amounts;
  disk = fold (λ m a. max m a.disk) 0 amounts;
  containers = fold (λ m a. max m a.containers) 0 amounts;
}
