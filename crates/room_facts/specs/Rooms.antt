-- How many jobs of a size find room.
use Rattle.std.specs.Prelude.{ℕ, ◌+◌, ◌/◌, ◌≤◌, ◌==◌, Bool, ◌&&◌, ◌||◌, nat_lt, nat_le, if◌then◌else◌, min, List, length, Option, filter, count_by, sum_by}
use Rattle.std.specs.Option.{option_eq}
use Rattle.cell_records.specs.declared.amounts.Amounts.{Amounts}
use Rattle.cell_records.specs.declared.job.Job.{Job}
use Rattle.auctioneer.specs.Stands.{same_name}
use Rattle.auctioneer.specs.declared.stand.Stand.{Stand}
use Rattle.room_facts.specs.Lacks.{has_tag}
use Rattle.room_facts.specs.declared.sums.Sums.{Sums}

-- how many of that size what is free holds, at most so many; a size of 0 bounds nothing
abbrev pub at_most : ℕ → ℕ → ℕ → ℕ
at_most most free size = if size == 0 then most else min most (free / size)

-- how many jobs of that size a cell takes, by its containers, its memory and its disk
abbrev pub share_of : Job → Amounts → ℕ
share_of size free = at_most (at_most free.containers free.memory size.memory) free.disk size.disk

-- how many jobs of that size and tag a cell takes
abbrev pub room_on : Job → Stand → ℕ
room_on size s = if has_tag size.tag s then share_of size s.free else 0

-- how many jobs of that size and tag the cells take, if nothing else takes room
abbrev pub room_for : Job → List Stand → ℕ
room_for size stands = sum_by (room_on size) stands

-- whether the job is for this tag
abbrev pub is_for : Option (List ℕ) → Job → Bool
is_for tag job = option_eq same_name tag job.tag

-- the jobs for a tag
abbrev pub of_tag : Option (List ℕ) → List Job → List Job
of_tag tag jobs = filter (is_for tag) jobs

-- whether the job asks for at least the memory and the disk of the other
abbrev pub is_as_large : Job → Job → Bool
is_as_large size job = nat_le size.memory job.memory && nat_le size.disk job.disk

-- how many jobs have the tag of this one and ask for at least its memory and its disk
abbrev pub as_large : Job → List Job → ℕ
as_large size jobs = count_by (is_as_large size) (of_tag size.tag jobs)

-- the same amounts, as a sum of 64 bits holds them
abbrev pub amounts_of : Sums → Amounts
amounts_of s = record { memory = s.memory; disk = s.disk; containers = s.containers }

-- no sum is above that number
pub record AreUpTo (n : ℕ) (s : Sums) : Type 0 where
  pub memory : s.memory ≤ n
  pub disk : s.disk ≤ n
  pub containers : s.containers ≤ n

-- both amounts together
abbrev pub plus : Amounts → Amounts → Amounts
plus a b = record {
  memory = a.memory + b.memory;
  disk = a.disk + b.disk;
  containers = a.containers + b.containers;
}

-- what jobs ask for in all
abbrev pub sums : List Job → Amounts
sums jobs = record {
  memory = sum_by (λ j. j.memory) jobs;
  disk = sum_by (λ j. j.disk) jobs;
  containers = length jobs;
}

-- what cells have free in all
abbrev pub free_in_all : List Stand → Amounts
free_in_all stands = record {
  memory = sum_by (λ s. s.free.memory) stands;
  disk = sum_by (λ s. s.free.disk) stands;
  containers = sum_by (λ s. s.free.containers) stands;
}

-- whether one of the first amounts is more than that of the second
abbrev pub exceeds : Amounts → Amounts → Bool
exceeds asked free =
    nat_lt free.memory asked.memory || (nat_lt free.disk asked.disk || nat_lt free.containers asked.containers)

-- whether it is shown that not all jobs of this one's tag find room: more are as large as it than its cells take, or all
-- of them ask for more than is free
abbrev pub is_short : List Stand → List Job → Job → Bool
is_short stands jobs job =
    nat_lt (room_for job stands) (as_large job jobs)
    || exceeds (sums (of_tag job.tag jobs)) (free_in_all (filter (has_tag job.tag) stands))
