-- The formats of a board's rows, as a head has them.
use Rattle.std.specs.Prelude.{◌≡◌, ◌≢◌, ℕ, Bool, true, false, List, [], ◌∷◌, ◌++◌, Option, Some, None, Result, Ok, Err, slice_index_or, if◌then◌else◌}
use Rattle.std.specs.Int.{w8}
use Rattle.cell_records.specs.declared.amounts.Amounts.{Amounts}
use Rattle.cell_records.specs.declared.cell_row.CellRow.{CellRow}
use Rattle.diego_names.specs.declared.instance.Instance.{Instance}
use Rattle.diego_names.specs.declared.key.Key.{Key}
use Rattle.lrp_records.specs.declared.actual.Actual.{Actual}
use Rattle.lrp_records.specs.declared.presence.Presence.{Presence}
use Rattle.lrp_records.specs.declared.presence.Presence.TheVariants.{Ordinary, Evacuating, Suspect}
use Rattle.lrp_records.specs.declared.state.LrpState.{LrpState}
use Rattle.lrp_records.specs.declared.state.LrpState.TheVariants as lrp
use Rattle.task_records.specs.declared.state.TaskState.{TaskState}
use Rattle.task_records.specs.declared.state.TaskState.TheVariants as task
use Rattle.task_records.specs.declared.task.Task.{Task}
use Rattle.bbs_model.specs.declared.domain_row.DomainRow.{DomainRow}
use Rattle.wire_fields.specs.Field.{field_number}
use Rattle.wire_fields.specs.Reading.{◌>>=◌, number_at}
use Rattle.wire_fields.specs.declared.fault.FieldFault.{FieldFault}
use Rattle.wire_fields.specs.declared.fault.FieldFault.TheVariants.{BadField}
use Rattle.bbs_codec.specs.Format.{Format, seen_at, both, three, seen, seen_where, nothing, format_in, number32, number64, truth, name, optional_name, instance}
use Rattle.bbs_codec.specs.Formats.{key, amounts}

-- how a value is read at a place
abbrev pub Reads : Type 0 → Type 0
Reads X = List ℕ → ℕ → Result (X × ℕ) FieldFault

-- the number of a case in one byte, and the fields of that case
pub record Case : Type 1 where
  pub number : ℕ
  pub fields : List ℕ
  pub Fits : Type 0

-- a case with a value
abbrev pub case_of : {X : Type 0} → ℕ → Format X → X → Case
case_of number format x = record { number = number; fields = format.spelling x; Fits = format.Fits x }

-- a case without fields
abbrev pub case_alone : ℕ → Case
case_alone number = record { number = number; fields = []; Fits = Unit {0} }

-- nothing is left to read of this value
abbrev pub alone : {X : Type 0} → X → Reads X
alone x bytes at = Ok (x, at)

-- the case whose number stands at a place, by the readers of the cases from 0 on
abbrev pub case_at : {X : Type 0} → List (Reads X) → Reads X
case_at readers bytes at =
    number_at w8 bytes at >>= λ number. slice_index_or readers number.0 (λ _ _. Err (BadField at)) bytes number.1

-- a value in cases: the number of the case, and its fields
abbrev pub cases : {X : Type 0} → (X → Case) → List (Reads X) → Format X
cases case readers = record {
  Fits = λ x. (case x).Fits;
  spelling = λ x. field_number w8 (case x).number ++ (case x).fields;
  read = case_at readers;
}

-- the case of a presence
abbrev pub presence_case : Presence → Case
presence_case Ordinary = case_alone 0
presence_case Evacuating = case_alone 1
presence_case Suspect = case_alone 2

-- how each case of it is read
abbrev pub presence_readers : List (Reads Presence)
presence_readers = alone Ordinary ∷ alone Evacuating ∷ alone Suspect ∷ []

-- 0 for the ORDINARY row, 1 for the EVACUATING one, 2 for the SUSPECT one
abbrev pub presence : Format Presence
presence = cases presence_case presence_readers

-- the row is the EVACUATING one
abbrev pub is_evacuating : Presence → Bool
is_evacuating Ordinary = false
is_evacuating Evacuating = true
is_evacuating Suspect = false

-- in version 1 the presence is a truth value, and no row is SUSPECT
abbrev pub old_presence : Format Presence
old_presence = seen_where (λ p. p ≢ Suspect) (λ b. if b then Evacuating else Ordinary) is_evacuating truth

-- a container, and its cell
abbrev pub holder : Format (Instance × List ℕ)
holder = both instance name

-- the case of an instance's state
abbrev pub lrp_case : LrpState → Case
lrp_case lrp.Unclaimed = case_alone 0
lrp_case (lrp.Claimed container cell) = case_of 1 holder (container, cell)
lrp_case (lrp.Running container cell) = case_of 2 holder (container, cell)
lrp_case lrp.Crashed = case_alone 3

-- how each case of it is read
abbrev pub lrp_readers : List (Reads LrpState)
lrp_readers =
    alone lrp.Unclaimed
    ∷ seen_at (λ p. lrp.Claimed p.0 p.1) holder.read
    ∷ seen_at (λ p. lrp.Running p.0 p.1) holder.read
    ∷ alone lrp.Crashed
    ∷ []

-- 0 UNCLAIMED, 1 CLAIMED, 2 RUNNING, 3 CRASHED, and for 1 and 2 the container and its cell
abbrev pub lrp_state : Format LrpState
lrp_state = cases lrp_case lrp_readers

-- the case of a task's state
abbrev pub task_case : TaskState → Case
task_case task.Pending = case_alone 0
task_case (task.Running container cell) = case_of 1 holder (container, cell)
task_case (task.Completed failed) = case_of 2 truth failed
task_case (task.Resolving failed) = case_of 3 truth failed

-- how each case of it is read
abbrev pub task_readers : List (Reads TaskState)
task_readers =
    alone task.Pending
    ∷ seen_at (λ p. task.Running p.0 p.1) holder.read
    ∷ seen_at task.Completed truth.read
    ∷ seen_at task.Resolving truth.read
    ∷ []

-- 0 PENDING, 1 RUNNING with the container and its cell, 2 COMPLETED and 3 RESOLVING with the outcome
abbrev pub task_state : Format TaskState
task_state = cases task_case task_readers

-- the case of an end
abbrev pub end_case : Option ℕ → Case
end_case None = case_alone 0
end_case (Some until) = case_of 1 number64 until

-- how each case of it is read
abbrev pub end_readers : List (Reads (Option ℕ))
end_readers = alone None ∷ seen_at Some number64.read ∷ []

-- 0, or 1 and the second of the end
abbrev pub optional_end : Format (Option ℕ)
optional_end = cases end_case end_readers

-- what an actual row is made of in version 1
abbrev pub OldParts : Type 0
OldParts = (Key × Presence × LrpState) × (ℕ × ℕ) × Bool

-- the row of these parts
abbrev pub old_actual_of : OldParts → Actual
old_actual_of p = record {
  key = p.0.0;
  presence = p.0.1;
  state = p.0.2;
  count = p.1.0;
  since = record { 0 = p.1.1 };
  error = p.2;
  domain = None;
}

-- the parts of a row
abbrev pub old_actual_parts : Actual → OldParts
old_actual_parts a = ((a.key, a.presence, a.state), (a.count, a.since.0), a.error)

-- an actual row in version 1, which has no domain
abbrev pub old_actual : Format Actual
old_actual =
    seen_where (λ (a : Actual). a.domain ≡ None) old_actual_of old_actual_parts
    (three (three key old_presence lrp_state) (both number32 number32) truth)

-- what an actual row is made of
abbrev pub ActualParts : Type 0
ActualParts = (Key × Presence × LrpState) × (ℕ × ℕ) × (Bool × Option (List ℕ))

-- the row of these parts
abbrev pub actual_of : ActualParts → Actual
actual_of p = record {
  key = p.0.0;
  presence = p.0.1;
  state = p.0.2;
  count = p.1.0;
  since = record { 0 = p.1.1 };
  error = p.2.0;
  domain = p.2.1;
}

-- the parts of a row
abbrev pub actual_parts : Actual → ActualParts
actual_parts a = ((a.key, a.presence, a.state), (a.count, a.since.0), (a.error, a.domain))

-- an actual row
abbrev pub actual : Format Actual
actual =
    seen actual_of actual_parts
    (three (three key presence lrp_state) (both number32 number32) (both truth optional_name))

-- an actual row in a version
abbrev pub actual_in : ℕ → Format Actual
actual_in version = format_in version old_actual actual

-- what a task's row is made of
abbrev pub TaskParts : Type 0
TaskParts = (List ℕ × ℕ × TaskState) × (ℕ × ℕ × ℕ) × Option (List ℕ)

-- the row of these parts
abbrev pub task_of : TaskParts → Task
task_of p = record {
  name = p.0.0;
  birth = p.0.1;
  state = p.0.2;
  since = record { 0 = p.1.0 };
  memory = p.1.1;
  disk = p.1.2;
  tag = p.2;
}

-- the parts of a row
abbrev pub task_parts : Task → TaskParts
task_parts t = ((t.name, t.birth, t.state), (t.since.0, t.memory, t.disk), t.tag)

-- the row of a task
abbrev pub task_row : Format Task
task_row =
    seen task_of task_parts
    (three (three name number64 task_state) (three number32 number32 number32) optional_name)

-- what a cell's row is made of
abbrev pub CellParts : Type 0
CellParts = (List ℕ × List ℕ × Option (List ℕ)) × Amounts × (ℕ × ℕ × Bool)

-- the row of these parts
abbrev pub cell_from : CellParts → CellRow
cell_from p = record {
  cell = p.0.0;
  zone = p.0.1;
  tag = p.0.2;
  totals = p.1;
  epoch = p.2.0;
  until = p.2.1;
  evacuating = p.2.2;
}

-- the parts of a row
abbrev pub cell_parts : CellRow → CellParts
cell_parts c = ((c.cell, c.zone, c.tag), c.totals, (c.epoch, c.until, c.evacuating))

-- the row of a cell
abbrev pub cell_row : Format CellRow
cell_row =
    seen cell_from cell_parts
    (three (three name name optional_name) amounts (three number64 number64 truth))

-- the row of a domain: its name, and when it ends, if it does
abbrev pub domain_row : Format DomainRow
domain_row = seen (λ p. record { domain = p.0; until = p.1 }) (λ d. (d.domain, d.until)) (both name optional_end)

-- the row of a domain in a version: version 1 has none
abbrev pub domain_in : ℕ → Format DomainRow
domain_in version = format_in version nothing domain_row
