-- The formats of the values that commands have.
use Rattle.std.specs.Prelude.{ℕ, Bool, List, Option}
use Rattle.cell_records.specs.declared.amounts.Amounts.{Amounts}
use Rattle.diego_names.specs.declared.instance.Instance.{Instance}
use Rattle.diego_names.specs.declared.key.Key.{Key}
use Rattle.lrp_records.specs.declared.desired.Desired.{Desired}
use Rattle.bbs_codec.specs.Format.{Format, both, three, seen, number16, number32, number64, truth, name, optional_name, instance, optional_instance}

-- a process and an index
abbrev pub key : Format Key
key = seen (λ p. record { process = p.0; index = p.1 }) (λ k. (k.process, k.index)) (both name number32)

-- memory, disk and containers
abbrev pub amounts : Format Amounts
amounts =
    seen (λ p. record { memory = p.0; disk = p.1; containers = p.2 }) (λ a. (a.memory, a.disk, a.containers))
    (three number32 number32 number32)

-- what a desired row is made of: names, then sizes, then a tag and a route with its port
abbrev pub DesiredParts : Type 0
DesiredParts = (List ℕ × List ℕ) × (ℕ × ℕ × ℕ) × (Option (List ℕ) × Option (List ℕ) × ℕ)

-- the row of these parts
abbrev pub desired_of : DesiredParts → Desired
desired_of p = record {
  process = p.0.0;
  domain = p.0.1;
  instances = p.1.0;
  memory = p.1.1;
  disk = p.1.2;
  tag = p.2.0;
  route = p.2.1;
  port = p.2.2;
}

-- the parts of a row
abbrev pub desired_parts : Desired → DesiredParts
desired_parts d = ((d.process, d.domain), (d.instances, d.memory, d.disk), (d.tag, d.route, d.port))

-- the row of a desired process
abbrev pub desired : Format Desired
desired =
    seen desired_of desired_parts
    (three (both name name) (three number32 number32 number32) (three optional_name optional_name number16))

-- process, instances, and a route with its port
abbrev pub update_fields : Format (List ℕ × ℕ × (Option (List ℕ) × ℕ))
update_fields = three name number32 (both optional_name number16)

-- an instance's key, its container and the cell of that
abbrev pub work_fields : Format (Key × Instance × List ℕ)
work_fields = three key instance name

-- an instance's key, and its container
abbrev pub held : Format (Key × Instance)
held = both key instance

-- an instance's key, and the container that is named, if any
abbrev pub removal : Format (Key × Option Instance)
removal = both key optional_instance

-- a task, its memory and disk, and its tag
abbrev pub new_task_fields : Format (List ℕ × (ℕ × ℕ) × Option (List ℕ))
new_task_fields = three name (both number32 number32) optional_name

-- a task, its container and the cell of that
abbrev pub task_work_fields : Format (List ℕ × Instance × List ℕ)
task_work_fields = three name instance name

-- a task, its container, and whether it failed
abbrev pub outcome : Format (List ℕ × Instance × Bool)
outcome = three name instance truth

-- a cell with its zone and tag, its amounts, and how long its lease holds
abbrev pub joining : Format ((List ℕ × List ℕ × Option (List ℕ)) × Amounts × ℕ)
joining = three (three name name optional_name) amounts number32

-- a cell, its epoch, and how long its lease holds
abbrev pub renewal : Format (List ℕ × ℕ × ℕ)
renewal = three name number64 number32

-- a cell, and its epoch
abbrev pub joined : Format (List ℕ × ℕ)
joined = both name number64

-- a domain, and how long it is fresh
abbrev pub freshness : Format (List ℕ × ℕ)
freshness = both name number32
