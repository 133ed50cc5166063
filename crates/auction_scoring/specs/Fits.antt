-- Which cells may take a job.
use Rattle.std.specs.Prelude.{◌≤◌, Bool, ◌&&◌, nat_eq, nat_le, nat_lt}
use Rattle.std.specs.Cmp.Lexicographic.{pointwise}
use Rattle.std.specs.Option.{option_eq}
use Rattle.cell_records.specs.declared.amounts.Amounts.{Amounts}
use Rattle.cell_records.specs.declared.job.Job.{Job}
use Rattle.auction_scoring.specs.declared.cell_view.CellView.{CellView}

-- each of the first amounts is at most that of the second
pub record IsWithin (part whole : Amounts) : Type 0 where
  pub memory : part.memory ≤ whole.memory
  pub disk : part.disk ≤ whole.disk
  pub containers : part.containers ≤ whole.containers

-- the tags are equal, or both absent; memory and disk are at most what is free; a container is free
abbrev pub fits : Job → CellView → Bool
fits job view =
    option_eq (pointwise nat_eq) job.tag view.tag
    && (nat_le job.memory view.free.memory
    && (nat_le job.disk view.free.disk && nat_lt 0 view.free.containers))
