-- What a board has at the keys that a command names.
use Rattle.std.specs.Prelude.{ℕ, List, Option, Some, None}
use Rattle.std.specs.Option.{option_and_then}
use Rattle.diego_names.specs.declared.key.Key.{Key}
use Rattle.lrp_records.specs.declared.presence.Presence.TheVariants.{Ordinary, Evacuating, Suspect}
use Rattle.lrp_records.specs.States.{cell_of}
use Rattle.lrp_records.specs.declared.actual.Actual.{Actual}
use Rattle.bbs_model.specs.Tables.{find_desired, find_actual, find_task, find_cell, find_domain, counts_of}
use Rattle.bbs_model.specs.declared.command.Op.{Op}
use Rattle.bbs_model.specs.declared.command.Op.TheVariants as op
use Rattle.bbs_model.specs.declared.found.Found.{Found}
use Rattle.bbs_model.specs.declared.rows.Rows.{Rows}

-- the process that a command speaks of, where its step depends on whether that is desired
abbrev pub process_in : Op → Option (List ℕ)
process_in (op.Desire desired) = Some desired.process
process_in (op.Update process instances route port) = Some process
process_in (op.Undesire process) = Some process
process_in (op.Make key) = Some key.process
process_in other = None

-- the instance that a command names
abbrev pub key_in : Op → Option Key
key_in (op.Make key) = Some key
key_in (op.Claim key instance cell) = Some key
key_in (op.Start key instance cell) = Some key
key_in (op.Crash key instance) = Some key
key_in (op.Unclaim key instance) = Some key
key_in (op.Restart key) = Some key
key_in (op.Remove key instance) = Some key
key_in (op.PlaceFail key) = Some key
key_in (op.Evacuate key instance) = Some key
key_in (op.Suspect key instance) = Some key
key_in other = None

-- the instance whose EVACUATING row a command speaks of
abbrev pub evacuating_in : Op → Option Key
evacuating_in (op.Evacuate key instance) = Some key
evacuating_in (op.DropEvacuating key instance) = Some key
evacuating_in other = None

-- the instance whose SUSPECT row a command speaks of
abbrev pub suspect_in : Op → Option Key
suspect_in (op.Suspect key instance) = Some key
suspect_in (op.DropSuspect key instance) = Some key
suspect_in other = None

-- the task that a command names
abbrev pub task_in : Op → Option (List ℕ)
task_in (op.NewTask name memory disk tag) = Some name
task_in (op.StartTask name instance cell) = Some name
task_in (op.CompleteTask name instance failed) = Some name
task_in (op.CancelTask name) = Some name
task_in (op.ResolveTask name) = Some name
task_in (op.DeleteTask name) = Some name
task_in (op.KickTask name) = Some name
task_in (op.ExpireTask name) = Some name
task_in other = None

-- the cell that a command names
abbrev pub cell_in : Op → Option (List ℕ)
cell_in (op.Claim key instance cell) = Some cell
cell_in (op.Start key instance cell) = Some cell
cell_in (op.StartTask name instance cell) = Some cell
cell_in (op.Join cell zone tag totals ttl) = Some cell
cell_in (op.Renew cell epoch ttl) = Some cell
cell_in (op.Drain cell epoch) = Some cell
cell_in (op.Vanish cell) = Some cell
cell_in other = None

-- the cell whose row a step looks at: the one that the command names, or that of the row that it suspects
abbrev pub looked_cell : Op → Option Actual → Option (List ℕ)
looked_cell (op.Suspect key instance) ordinary = option_and_then (λ (a : Actual). cell_of a.state) ordinary
looked_cell asked ordinary = cell_in asked

-- the domain that a command names
abbrev pub domain_in : Op → Option (List ℕ)
domain_in (op.Fresh domain ttl) = Some domain
domain_in (op.Forget domain) = Some domain
domain_in other = None

-- the ORDINARY row of the instance that a command names
abbrev pub ordinary_of : Rows → Op → Option Actual
ordinary_of rows asked = option_and_then (λ key. find_actual rows key Ordinary) (key_in asked)

-- what a board has at the keys of a command
abbrev pub found_by : Rows → Op → Found
found_by rows asked = record {
  desired = option_and_then (find_desired rows) (process_in asked);
  ordinary = ordinary_of rows asked;
  evacuating = option_and_then (λ key. find_actual rows key Evacuating) (evacuating_in asked);
  suspect = option_and_then (λ key. find_actual rows key Suspect) (suspect_in asked);
  task = option_and_then (find_task rows) (task_in asked);
  cell = option_and_then (find_cell rows) (looked_cell asked (ordinary_of rows asked));
  domain = option_and_then (find_domain rows) (domain_in asked);
  counts = counts_of rows;
  next = rows.next;
}
