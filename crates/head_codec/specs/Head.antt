-- The rows of a board in bytes, as the head of an area has them, and how bytes are read as rows.
use Rattle.std.specs.Prelude.{◌≡◌, ℕ, zero, suc, ◌+◌, ◌*◌, ◌&&◌, Bool, true, false, not, List, [], ◌∷◌, ◌++◌, length, nat_eq, nat_lt, nat_le, Option, Some, None, Result, Ok, Err, sum_by, if◌then◌else◌}
use Rattle.std.specs.declared.cmp.Ordering.{Ordering}
use Rattle.std.specs.List.{flat_map, list_all, list_any, AllByRecursion}
use Rattle.std.specs.Ordering.{is_lt}
use Rattle.cell_records.specs.declared.cell_row.CellRow.{CellRow}
use Rattle.diego_names.specs.Order.{name_order}
use Rattle.diego_names.specs.declared.instance.Instance.{Instance}
use Rattle.lrp_records.specs.Place.{place_of, place_order}
use Rattle.lrp_records.specs.States.{holder_of}
use Rattle.lrp_records.specs.declared.actual.Actual.{Actual}
use Rattle.lrp_records.specs.declared.desired.Desired.{Desired}
use Rattle.lrp_records.specs.declared.presence.Presence.{Presence}
use Rattle.lrp_records.specs.declared.presence.Presence.TheVariants.{Ordinary, Evacuating, Suspect}
use Rattle.lrp_records.specs.declared.state.LrpState.{LrpState}
use Rattle.lrp_records.specs.declared.state.LrpState.TheVariants as lrp
use Rattle.task_records.specs.declared.task.Task.{Task}
use Rattle.wire_fields.specs.Reading.{◌>>=◌}
use Rattle.wire_fields.specs.declared.fault.FieldFault.{FieldFault}
use Rattle.bbs_model.specs.Limits.{most_processes, most_instances, most_wanted, most_actual, most_tasks, most_cells, most_domains, most_transitions}
use Rattle.bbs_model.specs.Tables.{process_of, task_name_of, cell_name_of, domain_name_of}
use Rattle.bbs_model.specs.Valid.{IsValid}
use Rattle.task_records.specs.States.{runner_of}
use Rattle.bbs_model.specs.declared.domain_row.DomainRow.{DomainRow}
use Rattle.bbs_model.specs.declared.rows.Rows.{Rows}
use Rattle.bbs_codec.specs.Format.{Format, both, seen_where, format_in, number32, number64}
use Rattle.bbs_codec.specs.Formats.{desired}
use Rattle.bbs_codec.specs.RowFormats.{Reads, actual_in, task_row, cell_row, domain_in}
use Rattle.bbs_codec.specs.declared.fault.CodecFault.{CodecFault}
use Rattle.bbs_codec.specs.declared.fault.CodecFault.TheVariants.{Short, BadKind, BadField, Trailing}

-- `next`, and how many rows each table has
abbrev pub Counts : Type 0
Counts = ℕ × ((ℕ × ℕ) × (ℕ × (ℕ × ℕ)))

-- they stand in front
abbrev pub counts : Format Counts
counts = both number64 (both (both number32 number32) (both number32 (both number32 number32)))

-- what stands in front in version 1
abbrev pub OldCounts : Type 0
OldCounts = ℕ × ((ℕ × ℕ) × (ℕ × ℕ))

-- no domains are counted
abbrev pub counts_of_old : OldCounts → Counts
counts_of_old c = (c.0, (c.1.0, (c.1.1.0, (c.1.1.1, 0))))

-- all counts but that of domains
abbrev pub old_counts_of : Counts → OldCounts
old_counts_of c = (c.0, (c.1.0, (c.1.1.0, c.1.1.1.0)))

-- the counts in version 1, which has no domains
abbrev pub old_counts : Format Counts
old_counts =
    seen_where (λ c. c.1.1.1.1 ≡ 0) counts_of_old old_counts_of
    (both number64 (both (both number32 number32) (both number32 number32)))

-- the counts in a version
abbrev pub counts_in : ℕ → Format Counts
counts_in version = format_in version old_counts counts

-- the counts of these rows
abbrev pub head_counts : Rows → Counts
head_counts rows = (
  rows.next,
  ((length rows.desired, length rows.actual), (length rows.tasks, (length rows.cells, length rows.domains))),
)

-- the rows in bytes in a version: `next` and the counts, and then the rows of each table
unfoldable pub head_spelled : ℕ → Rows → List ℕ
head_spelled version rows =
    (counts_in version).spelling (head_counts rows)
    ++ (flat_map desired.spelling rows.desired
    ++ (flat_map (actual_in version).spelling rows.actual
    ++ (flat_map task_row.spelling rows.tasks
    ++ (flat_map cell_row.spelling rows.cells
    ++ flat_map (domain_in version).spelling rows.domains))))

-- what has a spelling in a version: valid rows, whose names and numbers are in their ranges; in version 1 no actual
-- row is SUSPECT or has a domain, and there are no rows of domains
pub record FitsHead (version : ℕ) (rows : Rows) : Type 0 where
  pub valid : IsValid rows
  pub desired : AllByRecursion desired.Fits rows.desired
  pub actual : AllByRecursion (actual_in version).Fits rows.actual
  pub tasks : AllByRecursion task_row.Fits rows.tasks
  pub cells : AllByRecursion cell_row.Fits rows.cells
  pub domains : AllByRecursion (domain_in version).Fits rows.domains

-- what the rows of a table keep beside the order of their keys: how many there are at most, what suits
-- a row of a board with so many transitions, how many instances it wants, and the number, if any, in
-- which it differs from the others
pub record Keeps (X : Type 0) : Type 0 where
  pub most : ℕ
  pub suits : ℕ → X → Bool
  pub wants : X → ℕ
  pub stamp : Option (X → ℕ)

-- one of the rows has this number
abbrev pub is_stamped : {X : Type 0} → Option (X → ℕ) → ℕ → List X → Bool
is_stamped None n rows = false
is_stamped (Some stamp) n rows = list_any (λ x. nat_eq (stamp x) n) rows

-- the row differs from those before it in its number
abbrev pub is_fresh : {X : Type 0} → Option (X → ℕ) → List X → X → Bool
is_fresh None rows row = true
is_fresh (Some stamp) rows row = not (list_any (λ x. nat_eq (stamp x) (stamp row)) rows)

-- the key of the row is above those of the rows before it
abbrev pub is_above : {K X : Type 0} → (K → K → Ordering) → (X → K) → List X → X → Bool
is_above order key rows row = list_all (λ x. is_lt (order (key x) (key row))) rows

-- there is room for the row behind these
abbrev pub has_room : {X : Type 0} → Keeps X → List X → X → Bool
has_room keeps rows row =
    nat_lt (length rows) keeps.most && nat_le (sum_by keeps.wants rows + keeps.wants row) most_wanted

-- the row may stand behind these
unfoldable pub may_follow : {K X : Type 0} → (K → K → Ordering) → (X → K) → Keeps X → ℕ → List X → X → Bool
may_follow order key keeps next rows row =
    ((is_above order key rows row && has_room keeps rows row) && keeps.suits next row) && is_fresh keeps.stamp rows row

-- the container, if there is one, is of a cell that joined before this transition
abbrev pub is_held_before : ℕ → Option Instance → Bool
is_held_before next None = true
is_held_before next (Some container) = nat_lt container.epoch next

-- the state is RUNNING
abbrev pub row_is_running : LrpState → Bool
row_is_running lrp.Unclaimed = false
row_is_running (lrp.Claimed container cell) = false
row_is_running (lrp.Running container cell) = true
row_is_running lrp.Crashed = false

-- an EVACUATING or SUSPECT row is RUNNING, and has no error
abbrev pub suits_presence : Presence → Actual → Bool
suits_presence Ordinary row = true
suits_presence Evacuating row = row_is_running row.state && not row.error
suits_presence Suspect row = row_is_running row.state && not row.error

-- desired rows
abbrev pub desired_keep : Keeps Desired
desired_keep = record { most = most_processes; suits = λ _ d. nat_le d.instances most_instances; wants = λ d. d.instances; stamp = None }

-- actual rows
abbrev pub actual_keep : Keeps Actual
actual_keep = record {
  most = most_actual;
  suits = λ next a. is_held_before next (holder_of a.state) && suits_presence a.presence a;
  wants = λ _. 0;
  stamp = None;
}

-- tasks, which differ in their births
abbrev pub tasks_keep : Keeps Task
tasks_keep = record {
  most = most_tasks;
  suits = λ next t. nat_lt t.birth next && is_held_before next (runner_of t.state);
  wants = λ _. 0;
  stamp = Some (λ t. t.birth);
}

-- cells, which differ in their epochs
abbrev pub cells_keep : Keeps CellRow
cells_keep = record { most = most_cells; suits = λ next c. nat_lt c.epoch next; wants = λ _. 0; stamp = Some (λ c. c.epoch) }

-- rows of domains
abbrev pub domains_keep : Keeps DomainRow
domains_keep = record { most = most_domains; suits = λ _ _. true; wants = λ _. 0; stamp = None }

-- a row that was read, put behind those before it where it may follow them; a fault is told at its first byte
abbrev pub row_kept : {X : Type 0} → (List X → X → Bool) → List X × ℕ → Result (X × ℕ) FieldFault → Result (List X × ℕ) CodecFault
row_kept follows done (Ok x) = if follows done.0 x.0 then Ok (done.0 ++ x.0 ∷ [], x.1) else Err (BadField done.1)
row_kept follows done (Err fault) = Err (BadField done.1)

-- so many rows more
abbrev pub head_rows_at : {X : Type 0} → Reads X → (List X → X → Bool) → ℕ → List ℕ → List X × ℕ → Result (List X × ℕ) CodecFault
head_rows_at read follows zero bytes done = Ok done
head_rows_at read follows (suc n) bytes done =
    row_kept follows done (read bytes done.1) >>= λ more. head_rows_at read follows n bytes more

-- `next` and the counts; a fault of any of them is told at the front
abbrev pub counts_read : Result (Counts × ℕ) FieldFault → Result (Counts × ℕ) CodecFault
counts_read (Ok c) = if nat_le c.0.0 most_transitions then Ok c else Err (BadField 0)
counts_read (Err fault) = Err (BadField 0)

-- the counts in front, and the place behind them
unfoldable pub counts_at : ℕ → List ℕ → Result (Counts × ℕ) CodecFault
counts_at version bytes = counts_read ((counts_in version).read bytes 0)

-- how the rows of a table of a board with so many transitions are read from a place on: as many as are counted
abbrev pub Tables : Type 0 → Type 0
Tables X = ℕ → ℕ → List ℕ → ℕ → Result (List X × ℕ) CodecFault

-- its desired rows
unfoldable pub desired_at : Tables Desired
desired_at next n bytes at = head_rows_at desired.read (may_follow name_order process_of desired_keep next) n bytes ([], at)

-- its actual rows, in a version
unfoldable pub actual_at : ℕ → Tables Actual
actual_at version next n bytes at =
    head_rows_at (actual_in version).read (may_follow place_order place_of actual_keep next) n bytes ([], at)

-- its tasks
unfoldable pub tasks_at : Tables Task
tasks_at next n bytes at = head_rows_at task_row.read (may_follow name_order task_name_of tasks_keep next) n bytes ([], at)

-- its cells
unfoldable pub cells_at : Tables CellRow
cells_at next n bytes at = head_rows_at cell_row.read (may_follow name_order cell_name_of cells_keep next) n bytes ([], at)

-- its rows of domains, in a version
unfoldable pub domains_at : ℕ → Tables DomainRow
domains_at version next n bytes at =
    head_rows_at (domain_in version).read (may_follow name_order domain_name_of domains_keep next) n bytes ([], at)

-- the rows that end where the bytes do
abbrev pub head_ended : List ℕ → Rows → ℕ → Result Rows CodecFault
head_ended bytes rows at = if nat_lt at (length bytes) then Err (Trailing at) else Ok rows

-- the rows that the bytes are in a version, or the first fault
unfoldable pub head_reading : ℕ → List ℕ → Result Rows CodecFault
head_reading version bytes = do
  c ← counts_at version bytes
  d ← desired_at c.0.0 c.0.1.0.0 bytes c.1
  a ← actual_at version c.0.0 c.0.1.0.1 bytes d.1
  t ← tasks_at c.0.0 c.0.1.1.0 bytes a.1
  r ← cells_at c.0.0 c.0.1.1.1.0 bytes t.1
  m ← domains_at version c.0.0 c.0.1.1.1.1 bytes r.1
  head_ended bytes (record { desired = d.0; actual = a.0; tasks = t.0; cells = r.0; domains = m.0; next = c.0.0 }) m.1

-- more bytes than any head has: the counts in front and each row of the largest board take 344 at most
abbrev pub longest_head : ℕ
longest_head = 344 * (1 + most_processes + most_actual + most_tasks + most_cells + most_domains)

-- the place that a fault tells
abbrev pub fault_place : CodecFault → ℕ
fault_place (Short at) = at
fault_place (BadKind at) = at
fault_place (BadField at) = at
fault_place (Trailing at) = at
