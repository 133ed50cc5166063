-- What one cell lacks for one job.
use Rattle.std.specs.Prelude.{ℕ, Bool, false, ◌&&◌, ◌==◌, nat_lt, List, Option}
use Rattle.std.specs.Bool.{beq}
use Rattle.std.specs.Option.{option_eq}
use Rattle.cell_records.specs.declared.job.Job.{Job}
use Rattle.auctioneer.specs.Stands.{same_name}
use Rattle.auctioneer.specs.declared.stand.Stand.{Stand}
use Rattle.room_facts.specs.declared.lacking.Lacking.{Lacking}

-- whether the cell is for this tag: both are one, or both are absent
abbrev pub has_tag : Option (List ℕ) → Stand → Bool
has_tag tag s = option_eq same_name tag s.tag

-- of which amounts the cell has less free than the job asks for, a container being asked for always
abbrev pub lacks : Job → Stand → Lacking
lacks job s = record {
  memory = nat_lt s.free.memory job.memory;
  disk = nat_lt s.free.disk job.disk;
  containers = s.free.containers == 0;
}

-- no amount
abbrev pub nothing : Lacking
nothing = record { memory = false; disk = false; containers = false }

-- whether two sets of amounts are one
abbrev pub same_lacks : Lacking → Lacking → Bool
same_lacks a b = beq a.memory b.memory && (beq a.disk b.disk && beq a.containers b.containers)

-- whether the cell has the job's tag, and too little of just these amounts
abbrev pub lacks_just : Lacking → Job → Stand → Bool
lacks_just wanted job s = has_tag job.tag s && same_lacks (lacks job s) wanted
