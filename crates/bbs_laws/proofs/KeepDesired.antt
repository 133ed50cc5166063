-- What clients ask of desired processes leaves a valid board.
use Rattle.std.proofs.Common.{◌≡◌, ℕ, ◌+◌, ◌-◌, ◌<◌, List, Option, Some, None, sum_by, ap, ◌∙◌, arith}
use Rattle.std.specs.Option.{option_map_or}
use Rattle.diego_names.specs.Order.{name_order}
use Rattle.diego_names.proofs.Public.{IsKeyOrder-name_order}
use Rattle.lrp_records.specs.declared.desired.Desired.{Desired}
use Rattle.row_tables.specs.Table.{put_row, without_row}
use Rattle.row_tables.proofs.Public.{key-find_row, sum_by-put_row}
use Rattle.bbs_model.specs.Attempts.{put, drop_row, unless_refused}
use Rattle.bbs_model.specs.Found.{found_by}
use Rattle.bbs_model.specs.Limits.{most_processes, most_instances, most_wanted, most_transitions}
use Rattle.bbs_model.specs.Processes.{desire_refusals, desire, asks_for, resize_refusals, update, undesire}
use Rattle.bbs_model.specs.Step.{changed_by, advanced}
use Rattle.bbs_model.specs.Tables.{process_of, find_desired, wanted}
use Rattle.bbs_model.specs.Valid.{AreDesired, IsValid}
use Rattle.bbs_model.specs.declared.attempt.Attempt.{Attempt}
use Rattle.bbs_model.specs.declared.attempt.Attempt.TheVariants.{Keep}
use Rattle.bbs_model.specs.declared.command.Op.TheVariants as op
use Rattle.bbs_model.specs.declared.event.Row.TheVariants as row
use Rattle.bbs_model.specs.declared.rows.Rows.{Rows}
use Rattle.bbs_laws.proofs.KeepSteps.{none_from, below_from, within_from, by_test, by_passing, by_knowing}
use Rattle.bbs_laws.proofs.KeepTables.{AreDesired-put, AreDesired-without, AreActual-longer, AreTasks-longer, AreCells-longer}

-- other desired rows, and one transition more
with_desired : (rows : Rows) (desired : List Desired) → IsValid rows → rows.next < most_transitions → AreDesired desired
    → IsValid (advanced (record rows { desired = desired }))
with_desired rows desired valid room h = record {
  desired = h;
  actual = AreActual-longer rows.next rows.actual valid.actual;
  tasks = AreTasks-longer rows.next rows.tasks valid.tasks;
  cells = AreCells-longer rows.next rows.cells valid.cells;
  domains = valid.domains;
  next = omega arith;
}

-- the sum after a put, where the row at its process is known or there is none
sum_new : (rows : Rows) (d : Desired) → IsValid rows → find_desired rows d.process ≡ None
    → sum_by (λ (e : Desired). e.instances) (put_row name_order process_of d rows.desired) ≡ wanted rows + d.instances
sum_new rows d valid none =
    let sum = sum_by-put_row name_order process_of IsKeyOrder-name_order
    (λ (e : Desired). e.instances) d rows.desired valid.desired.rising in
    let nothing : option_map_or (λ (e : Desired). e.instances) (find_desired rows d.process) 0 ≡ 0 =
    ap (λ (s : Option Desired). option_map_or (λ (e : Desired). e.instances) s 0) none in
    omega (arith, sum, nothing)

sum_known : (rows : Rows) (d old : Desired) → IsValid rows → find_desired rows d.process ≡ Some old
    → sum_by (λ (e : Desired). e.instances) (put_row name_order process_of d rows.desired) + old.instances
    ≡ wanted rows + d.instances
sum_known rows d old valid known =
    let sum = sum_by-put_row name_order process_of IsKeyOrder-name_order
    (λ (e : Desired). e.instances) d rows.desired valid.desired.rising in
    let before : option_map_or (λ (e : Desired). e.instances) (find_desired rows d.process) 0 ≡ old.instances =
    ap (λ (s : Option Desired). option_map_or (λ (e : Desired). e.instances) s 0) known in
    omega (arith, sum, before)

module _ (rows : Rows) (valid : IsValid rows) (room : rows.next < most_transitions) where
  pub IsValid-desire : (d : Desired) → IsValid (changed_by rows (desire (found_by rows (op.Desire d)) d))
  IsValid-desire d =
      by_passing (λ (a : Attempt). IsValid (changed_by rows a)) (λ why. valid)
      (desire_refusals (found_by rows (op.Desire d)) d) (put (row.Desired d)) (λ passed.
      let none : find_desired rows d.process ≡ None = none_from (find_desired rows d.process) passed.0 in
      let sum = within_from most_wanted (wanted rows + d.instances) passed.1.1.1.0 in
      with_desired rows (put_row name_order process_of d rows.desired) valid room
      (AreDesired-put d rows.desired valid.desired (within_from most_instances d.instances passed.1.1.0)
      (λ e. below_from most_processes _ passed.1.0) (omega (arith, sum, sum_new rows d valid none))))

  pub IsValid-update : (process : List ℕ) (instances : ℕ) (route : Option (List ℕ)) (port : ℕ)
      → IsValid (changed_by rows (update (found_by rows (op.Update process instances route port)) instances route port))
  IsValid-update process instances route port =
      let P = λ (a : Attempt). IsValid (changed_by rows a) in
      let found = found_by rows (op.Update process instances route port) in
      by_knowing P (λ why. valid) (find_desired rows process) _ (λ old known.
      let new : Desired = record old { instances = instances; route = route; port = port } in
      let known_there : find_desired rows old.process ≡ Some old =
      ap (find_desired rows) (key-find_row name_order process_of IsKeyOrder-name_order process old rows.desired
      known) ∙ known in
      by_test P (λ why. valid) (asks_for old instances route port) Keep
      (unless_refused (resize_refusals found old instances) (put (row.Desired new))) (λ asked. valid) (λ other.
      by_passing P (λ why. valid) (resize_refusals found old instances) (put (row.Desired new)) (λ passed.
      let sum = within_from most_wanted (wanted rows - old.instances + instances) passed.1.0 in
      with_desired rows (put_row name_order process_of new rows.desired) valid room
      (AreDesired-put new rows.desired valid.desired (within_from most_instances instances passed.0)
      (λ none. cc) (omega (arith, sum, sum_known rows new old valid known_there))))))

  pub IsValid-undesire : (process : List ℕ) → IsValid (changed_by rows (undesire (found_by rows (op.Undesire process))))
  IsValid-undesire process =
      by_knowing (λ (a : Attempt). IsValid (changed_by rows a)) (λ why. valid) (find_desired rows process)
      (λ d. drop_row (row.Desired d)) (λ old known.
      with_desired rows (without_row name_order process_of old.process rows.desired) valid room
      (AreDesired-without old.process rows.desired valid.desired))
