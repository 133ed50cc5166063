-- The rows that a command may change, by the keys that it names.
use Rattle.std.specs.Prelude.{◌≡◌, ◌≢◌, ℕ, List, Option, Some, None}
use Rattle.diego_names.specs.declared.key.Key.{Key}
use Rattle.lrp_records.specs.declared.presence.Presence.{Presence}
use Rattle.lrp_records.specs.declared.presence.Presence.TheVariants.{Ordinary, Evacuating, Suspect}
use Rattle.bbs_model.specs.Found.{process_in, key_in, evacuating_in, suspect_in, task_in, cell_in, domain_in}
use Rattle.bbs_model.specs.Tables.{find_desired, find_actual, find_task, find_cell, find_domain}
use Rattle.bbs_model.specs.declared.command.Op.{Op}
use Rattle.bbs_model.specs.declared.command.Op.TheVariants as op
use Rattle.bbs_model.specs.declared.rows.Rows.{Rows}

-- the process whose row a command may change: a Make only looks whether its instance is wanted
abbrev pub own_process : Op → Option (List ℕ)
own_process (op.Make key) = None
own_process asked = process_in asked

-- the instance whose row with this presence a command may change
abbrev pub own_instance : Op → Presence → Option Key
own_instance asked Ordinary = key_in asked
own_instance asked Evacuating = evacuating_in asked
own_instance asked Suspect = suspect_in asked

-- the cell whose row a command may change: a claim or a start only looks whether its cell has joined, and
-- a suspicion whether that of its row is there
abbrev pub own_cell : Op → Option (List ℕ)
own_cell (op.Claim key instance cell) = None
own_cell (op.Start key instance cell) = None
own_cell (op.StartTask name instance cell) = None
own_cell asked = cell_in asked

-- each table answers as before at every key that isn't the command's own
pub record KeepsOthers (asked : Op) (old new : Rows) : Type 0 where
  pub desired : (process : List ℕ) → own_process asked ≢ Some process →
      find_desired new process ≡ find_desired old process
  pub actual : (key : Key) (presence : Presence) → own_instance asked presence ≢ Some key →
      find_actual new key presence ≡ find_actual old key presence
  pub tasks : (name : List ℕ) → task_in asked ≢ Some name → find_task new name ≡ find_task old name
  pub cells : (cell : List ℕ) → own_cell asked ≢ Some cell → find_cell new cell ≡ find_cell old cell
  pub domains : (domain : List ℕ) → domain_in asked ≢ Some domain → find_domain new domain ≡ find_domain old domain
