-- What a put and a removal keep of each of a board's tables.
use Rattle.std.proofs.Common.{◌≡◌, ℕ, ◌+◌, ◌<◌, ◌≤◌, List, length, Option, Some, None, sum_by, arith}
use Rattle.std.specs.List.{AllByRecursion}
use Rattle.cell_records.specs.declared.cell_row.CellRow.{CellRow}
use Rattle.diego_names.specs.Order.{name_order}
use Rattle.diego_names.specs.declared.instance.Instance.{Instance}
use Rattle.diego_names.specs.declared.key.Key.{Key}
use Rattle.diego_names.proofs.Public.{IsKeyOrder-name_order}
use Rattle.lrp_records.specs.Place.{place_of, place_order}
use Rattle.lrp_records.specs.States.{holder_of}
use Rattle.lrp_records.specs.declared.actual.Actual.{Actual}
use Rattle.lrp_records.specs.declared.desired.Desired.{Desired}
use Rattle.lrp_records.specs.declared.presence.Presence.{Presence}
use Rattle.lrp_records.proofs.Public.{IsKeyOrder-place_order}
use Rattle.row_tables.specs.Table.{find_row, put_row, without_row}
use Rattle.row_tables.proofs.Public.{IsRising-put_row, IsRising-without_row, sum_by-without_row}
use Rattle.task_records.specs.declared.task.Task.{Task}
use Rattle.bbs_model.specs.Limits.{most_processes, most_wanted, most_actual, most_tasks, most_cells, most_domains}
use Rattle.bbs_model.specs.Tables.{process_of, task_name_of, cell_name_of, domain_name_of}
use Rattle.bbs_model.specs.Valid.{HasFewInstances, AreDesired, IsHeldBefore, IsActualRow, AreActual, IsTaskRow, AreTasks, HasJoined, AreCells, AreDomains}
use Rattle.bbs_model.specs.declared.domain_row.DomainRow.{DomainRow}
use Rattle.task_records.specs.States.{runner_of}
use Rattle.bbs_model.proofs.Public.{each_weaker}
use Rattle.bbs_laws.proofs.KeepEach.{each-put_row, each-without_row, few-put_row, few-without_row, distinct-put_row_known, distinct-put_row_above, distinct-without_row}

-- what is of the past is of any longer one
held_longer : (next : ℕ) (holder : Option Instance) → IsHeldBefore next holder → IsHeldBefore (next + 1) holder
held_longer next None h = tt
held_longer next (Some instance) h = omega arith

actual_longer : (next : ℕ) (row : Actual) → IsActualRow next row → IsActualRow (next + 1) row
actual_longer next row h = record { held = held_longer next (holder_of row.state) h.held; suits = h.suits }

task_longer : (next : ℕ) (row : Task) → IsTaskRow next row → IsTaskRow (next + 1) row
task_longer next row h = record { born = omega (arith, h.born); held = held_longer next (runner_of row.state) h.held }

pub AreActual-longer : (next : ℕ) (rows : List Actual) → AreActual next rows → AreActual (next + 1) rows
AreActual-longer next rows h = record {
  rising = h.rising;
  few = h.few;
  each = each_weaker (IsActualRow next) (IsActualRow (next + 1)) (actual_longer next) rows h.each;
}

pub AreTasks-longer : (next : ℕ) (rows : List Task) → AreTasks next rows → AreTasks (next + 1) rows
AreTasks-longer next rows h = record {
  rising = h.rising;
  few = h.few;
  each = each_weaker (IsTaskRow next) (IsTaskRow (next + 1)) (task_longer next) rows h.each;
  births = h.births;
}

pub AreCells-longer : (next : ℕ) (rows : List CellRow) → AreCells next rows → AreCells (next + 1) rows
AreCells-longer next rows h = record {
  rising = h.rising;
  few = h.few;
  each = each_weaker (HasJoined next) (HasJoined (next + 1)) (λ c joined. omega arith) rows h.each;
  epochs = h.epochs;
}

-- desired rows
pub AreDesired-put : (row : Desired) (rows : List Desired) → AreDesired rows → HasFewInstances row
    → (find_row name_order process_of row.process rows ≡ None → length rows < most_processes)
    → sum_by (λ (d : Desired). d.instances) (put_row name_order process_of row rows) ≤ most_wanted
    → AreDesired (put_row name_order process_of row rows)
AreDesired-put row rows h fits room sum = record {
  rising = IsRising-put_row name_order process_of IsKeyOrder-name_order row rows h.rising;
  few = few-put_row name_order process_of IsKeyOrder-name_order most_processes row rows h.rising h.few room;
  each = each-put_row name_order process_of HasFewInstances row rows fits h.each;
  wanted = sum;
}

pub AreDesired-without : (process : List ℕ) (rows : List Desired) → AreDesired rows
    → AreDesired (without_row name_order process_of process rows)
AreDesired-without process rows h = record {
  rising = IsRising-without_row name_order process_of process rows h.rising;
  few = few-without_row name_order process_of IsKeyOrder-name_order most_processes process rows h.rising h.few;
  each = each-without_row name_order process_of HasFewInstances process rows h.each;
  wanted = omega (
    arith,
    h.wanted,
    sum_by-without_row name_order process_of IsKeyOrder-name_order
        (λ (d : Desired). d.instances) process rows h.rising,
  );
}

-- actual rows
pub AreActual-put : (next : ℕ) (row : Actual) (rows : List Actual) → AreActual next rows → IsActualRow next row
    → (find_row place_order place_of (place_of row) rows ≡ None → length rows < most_actual)
    → AreActual next (put_row place_order place_of row rows)
AreActual-put next row rows h fits room = record {
  rising = IsRising-put_row place_order place_of IsKeyOrder-place_order row rows h.rising;
  few = few-put_row place_order place_of IsKeyOrder-place_order most_actual row rows h.rising h.few room;
  each = each-put_row place_order place_of (IsActualRow next) row rows fits h.each;
}

pub AreActual-without : (next : ℕ) (place : Key × Presence) (rows : List Actual) → AreActual next rows
    → AreActual next (without_row place_order place_of place rows)
AreActual-without next place rows h = record {
  rising = IsRising-without_row place_order place_of place rows h.rising;
  few = few-without_row place_order place_of IsKeyOrder-place_order most_actual place rows h.rising h.few;
  each = each-without_row place_order place_of (IsActualRow next) place rows h.each;
}

-- tasks: a new one is born now, and one that is known keeps its birth
born_before : (next : ℕ) (rows : List Task) → AllByRecursion (IsTaskRow next) rows
    → AllByRecursion (λ (t : Task). t.birth < next) rows
born_before next rows h = each_weaker (IsTaskRow next) (λ (t : Task). t.birth < next) (λ t is. is.born) rows h

pub AreTasks-put_new : (next : ℕ) (row : Task) (rows : List Task) → AreTasks next rows → row.birth ≡ next
    → IsTaskRow (next + 1) row
    → length rows < most_tasks → AreTasks (next + 1) (put_row name_order task_name_of row rows)
AreTasks-put_new next row rows h born fits room =
    let later = AreTasks-longer next rows h in
    record {
      rising = IsRising-put_row name_order task_name_of IsKeyOrder-name_order row rows h.rising;
      few = few-put_row name_order task_name_of IsKeyOrder-name_order most_tasks row rows h.rising h.few (λ _. room);
      each = each-put_row name_order task_name_of (IsTaskRow (next + 1)) row rows fits later.each;
      births = distinct-put_row_above name_order task_name_of (λ (t : Task). t.birth) row rows
          (each_weaker (λ (t : Task). t.birth < next) (λ (t : Task). t.birth < row.birth)
          (λ t below. omega (arith, below, born)) rows (born_before next rows h.each)) h.births;
    }

pub AreTasks-put_known : (next : ℕ) (row old : Task) (rows : List Task) → AreTasks next rows → IsTaskRow next row
    → find_row name_order task_name_of row.name rows ≡ Some old → row.birth ≡ old.birth
    → AreTasks next (put_row name_order task_name_of row rows)
AreTasks-put_known next row old rows h fits known same = record {
  rising = IsRising-put_row name_order task_name_of IsKeyOrder-name_order row rows h.rising;
  few = few-put_row name_order task_name_of IsKeyOrder-name_order most_tasks row rows h.rising h.few (λ none. cc);
  each = each-put_row name_order task_name_of (IsTaskRow next) row rows fits h.each;
  births = distinct-put_row_known name_order task_name_of
      (λ (t : Task). t.birth) IsKeyOrder-name_order row old rows h.rising known same h.births;
}

pub AreTasks-without : (next : ℕ) (name : List ℕ) (rows : List Task) → AreTasks next rows
    → AreTasks next (without_row name_order task_name_of name rows)
AreTasks-without next name rows h = record {
  rising = IsRising-without_row name_order task_name_of name rows h.rising;
  few = few-without_row name_order task_name_of IsKeyOrder-name_order most_tasks name rows h.rising h.few;
  each = each-without_row name_order task_name_of (IsTaskRow next) name rows h.each;
  births = distinct-without_row name_order task_name_of (λ (t : Task). t.birth) name rows h.births;
}

-- cells: one that joins has its epoch from now, and one that is known keeps it
pub AreCells-put_new : (next : ℕ) (row : CellRow) (rows : List CellRow) → AreCells next rows → row.epoch ≡ next
    → (find_row name_order cell_name_of row.cell rows ≡ None → length rows < most_cells)
    → AreCells (next + 1) (put_row name_order cell_name_of row rows)
AreCells-put_new next row rows h joined room =
    let later = AreCells-longer next rows h in
    record {
      rising = IsRising-put_row name_order cell_name_of IsKeyOrder-name_order row rows h.rising;
      few = few-put_row name_order cell_name_of IsKeyOrder-name_order most_cells row rows h.rising h.few room;
      each = each-put_row name_order cell_name_of (HasJoined (next + 1)) row rows (omega (arith, joined)) later.each;
      epochs = distinct-put_row_above name_order cell_name_of (λ (c : CellRow). c.epoch) row rows
          (each_weaker (HasJoined next) (λ (c : CellRow). c.epoch < row.epoch)
          (λ c before. omega (arith, before, joined)) rows h.each) h.epochs;
    }

pub AreCells-put_known : (next : ℕ) (row old : CellRow) (rows : List CellRow) → AreCells next rows → HasJoined next row
    → find_row name_order cell_name_of row.cell rows ≡ Some old → row.epoch ≡ old.epoch
    → AreCells next (put_row name_order cell_name_of row rows)
AreCells-put_known next row old rows h fits known same = record {
  rising = IsRising-put_row name_order cell_name_of IsKeyOrder-name_order row rows h.rising;
  few = few-put_row name_order cell_name_of IsKeyOrder-name_order most_cells row rows h.rising h.few (λ none. cc);
  each = each-put_row name_order cell_name_of (HasJoined next) row rows fits h.each;
  epochs = distinct-put_row_known name_order cell_name_of
      (λ (c : CellRow). c.epoch) IsKeyOrder-name_order row old rows h.rising known same h.epochs;
}

pub AreCells-without : (next : ℕ) (cell : List ℕ) (rows : List CellRow) → AreCells next rows
    → AreCells next (without_row name_order cell_name_of cell rows)
AreCells-without next cell rows h = record {
  rising = IsRising-without_row name_order cell_name_of cell rows h.rising;
  few = few-without_row name_order cell_name_of IsKeyOrder-name_order most_cells cell rows h.rising h.few;
  each = each-without_row name_order cell_name_of (HasJoined next) cell rows h.each;
  epochs = distinct-without_row name_order cell_name_of (λ (c : CellRow). c.epoch) cell rows h.epochs;
}

-- domains
pub AreDomains-put : (row : DomainRow) (rows : List DomainRow) → AreDomains rows
    → (find_row name_order domain_name_of row.domain rows ≡ None → length rows < most_domains)
    → AreDomains (put_row name_order domain_name_of row rows)
AreDomains-put row rows h room = record {
  rising = IsRising-put_row name_order domain_name_of IsKeyOrder-name_order row rows h.rising;
  few = few-put_row name_order domain_name_of IsKeyOrder-name_order most_domains row rows h.rising h.few room;
}

pub AreDomains-without : (domain : List ℕ) (rows : List DomainRow) → AreDomains rows
    → AreDomains (without_row name_order domain_name_of domain rows)
AreDomains-without domain rows h = record {
  rising = IsRising-without_row name_order domain_name_of domain rows h.rising;
  few = few-without_row name_order domain_name_of IsKeyOrder-name_order most_domains domain rows h.rising h.few;
}
