-- The rows that a board keeps are those of its five tables.
use Rattle.std.proofs.Common.{◌≡◌, ℕ, ◌<◌, ◌≤◌, true, not, List, [], ◌∷◌, Option, Some, None, sum_by, refl, ap, arith}
use Rattle.std.specs.Prelude.{nat_lt, nat_le}
use Rattle.std.specs.List.{AllByRecursion}
use Rattle.std.proofs.lemmas.Bool.Decides.{nat_tests}
use Rattle.std.proofs.lemmas.List.Sums.{sum_by-cons}
use Rattle.cell_records.specs.declared.cell_row.CellRow.{CellRow}
use Rattle.diego_names.specs.Order.{name_order}
use Rattle.diego_names.specs.declared.instance.Instance.{Instance}
use Rattle.lrp_records.specs.Place.{place_of, place_order}
use Rattle.lrp_records.specs.States.{holder_of}
use Rattle.lrp_records.specs.declared.actual.Actual.{Actual}
use Rattle.lrp_records.specs.declared.desired.Desired.{Desired}
use Rattle.lrp_records.specs.declared.presence.Presence.{Presence}
use Rattle.lrp_records.specs.declared.presence.Presence.TheVariants.{Ordinary, Evacuating, Suspect}
use Rattle.lrp_records.specs.declared.state.LrpState.{LrpState}
use Rattle.lrp_records.specs.declared.state.LrpState.TheVariants as lrp
use Rattle.task_records.specs.declared.task.Task.{Task}
use Rattle.bbs_model.specs.Limits.{most_instances}
use Rattle.bbs_model.specs.Tables.{process_of, task_name_of, cell_name_of, domain_name_of}
use Rattle.bbs_model.specs.Valid.{HasFewInstances, AreDesired, IsHeldBefore, IsRunning, SuitsPresence, IsActualRow, AreActual, IsTaskRow, AreTasks, HasJoined, AreCells, AreDomains}
use Rattle.bbs_model.specs.declared.domain_row.DomainRow.{DomainRow}
use Rattle.task_records.specs.States.{runner_of}
use Rattle.bbs_model.proofs.Public.{each_weaker}
use Rattle.head_codec.specs.Head.{is_held_before, row_is_running, suits_presence, desired_keep, actual_keep, tasks_keep, cells_keep, domains_keep}
use Rattle.head_codec.proofs.Followers.{IsTable}
use Rattle.head_codec.proofs.Pushes.{both_true, true_both, not_true}

below : (a b : ℕ) → nat_lt a b ≡ true → a < b
below a b e = grind (arith, nat_tests, e)

is_below : (a b : ℕ) → a < b → nat_lt a b ≡ true
is_below a b lt = grind (arith, nat_tests)

within : (a b : ℕ) → nat_le a b ≡ true → a ≤ b
within a b e = grind (arith, nat_tests, e)

is_within : (a b : ℕ) → a ≤ b → nat_le a b ≡ true
is_within a b le = grind (arith, nat_tests)

sum_zero : {X : Type 0} (xs : List X) → sum_by (λ (x : X). 0) xs ≡ 0
sum_zero [] = refl
sum_zero {X} (x ∷ xs) = omega (arith, sum_by-cons (λ (y : X). 0) x xs, sum_zero xs)

held : (next : ℕ) (o : Option Instance) → is_held_before next o ≡ true → IsHeldBefore next o
held next None e = tt
held next (Some container) e = below container.epoch next e

is_held : (next : ℕ) (o : Option Instance) → IsHeldBefore next o → is_held_before next o ≡ true
is_held next None h = refl
is_held next (Some container) h = is_below container.epoch next h

running : (state : LrpState) → row_is_running state ≡ true → IsRunning state
running lrp.Unclaimed e = absurd cc
running (lrp.Claimed container cell) e = absurd cc
running (lrp.Running container cell) e = tt
running lrp.Crashed e = absurd cc

runs : (state : LrpState) → IsRunning state → row_is_running state ≡ true
runs lrp.Unclaimed h = absurd h
runs (lrp.Claimed container cell) h = absurd h
runs (lrp.Running container cell) h = refl
runs lrp.Crashed h = absurd h

suits : (p : Presence) (row : Actual) → suits_presence p row ≡ true → SuitsPresence p row
suits Ordinary row e = tt
suits Evacuating row e =
    let parts = both_true (row_is_running row.state) (not row.error) e in
    (running row.state parts.0, not_true row.error parts.1)
suits Suspect row e =
    let parts = both_true (row_is_running row.state) (not row.error) e in
    (running row.state parts.0, not_true row.error parts.1)

does_suit : (p : Presence) (row : Actual) → SuitsPresence p row → suits_presence p row ≡ true
does_suit Ordinary row h = refl
does_suit Evacuating row h = true_both (row_is_running row.state) (not row.error) (runs row.state h.0) (ap not h.1)
does_suit Suspect row h = true_both (row_is_running row.state) (not row.error) (runs row.state h.0) (ap not h.1)

pub AreDesired-table : (next : ℕ) (rows : List Desired) → IsTable name_order process_of desired_keep next rows
    → AreDesired rows
AreDesired-table next rows t = record {
  rising = t.rising;
  few = t.few;
  each = each_weaker (λ (d : Desired). nat_le d.instances most_instances ≡ true) HasFewInstances
      (λ d e. within d.instances most_instances e) rows t.each;
  wanted = t.wanted;
}

pub desired_table : (next : ℕ) (rows : List Desired) → AreDesired rows
    → IsTable name_order process_of desired_keep next rows
desired_table next rows h = record {
  rising = h.rising;
  few = h.few;
  each = each_weaker HasFewInstances (λ (d : Desired). nat_le d.instances most_instances ≡ true)
      (λ d le. is_within d.instances most_instances le) rows h.each;
  wanted = h.wanted;
  distinct = tt;
}

pub AreActual-table : (next : ℕ) (rows : List Actual) → IsTable place_order place_of actual_keep next rows
    → AreActual next rows
AreActual-table next rows t = record {
  rising = t.rising;
  few = t.few;
  each = each_weaker (λ (a : Actual). actual_keep.suits next a ≡ true) (IsActualRow next)
      (λ a e. let parts = both_true (is_held_before next (holder_of a.state)) (suits_presence a.presence a) e in
      record { held = held next (holder_of a.state) parts.0; suits = suits a.presence a parts.1 }) rows t.each;
}

pub actual_table : (next : ℕ) (rows : List Actual) → AreActual next rows
    → IsTable place_order place_of actual_keep next rows
actual_table next rows h = record {
  rising = h.rising;
  few = h.few;
  each = each_weaker (IsActualRow next) (λ (a : Actual). actual_keep.suits next a ≡ true)
      (λ a is. true_both (is_held_before next (holder_of a.state)) (suits_presence a.presence a)
      (is_held next (holder_of a.state) is.held) (does_suit a.presence a is.suits)) rows h.each;
  wanted = omega (arith, sum_zero rows);
  distinct = tt;
}

pub AreTasks-table : (next : ℕ) (rows : List Task) → IsTable name_order task_name_of tasks_keep next rows
    → AreTasks next rows
AreTasks-table next rows t = record {
  rising = t.rising;
  few = t.few;
  each = each_weaker (λ (a : Task). tasks_keep.suits next a ≡ true) (IsTaskRow next)
      (λ a e. let parts = both_true (nat_lt a.birth next) (is_held_before next (runner_of a.state)) e in
      record { born = below a.birth next parts.0; held = held next (runner_of a.state) parts.1 }) rows t.each;
  births = t.distinct;
}

pub tasks_table : (next : ℕ) (rows : List Task) → AreTasks next rows
    → IsTable name_order task_name_of tasks_keep next rows
tasks_table next rows h = record {
  rising = h.rising;
  few = h.few;
  each = each_weaker (IsTaskRow next) (λ (a : Task). tasks_keep.suits next a ≡ true)
      (λ a is. true_both (nat_lt a.birth next) (is_held_before next (runner_of a.state)) (is_below a.birth next is.born)
      (is_held next (runner_of a.state) is.held)) rows h.each;
  wanted = omega (arith, sum_zero rows);
  distinct = h.births;
}

pub AreCells-table : (next : ℕ) (rows : List CellRow) → IsTable name_order cell_name_of cells_keep next rows
    → AreCells next rows
AreCells-table next rows t = record {
  rising = t.rising;
  few = t.few;
  each = each_weaker (λ (c : CellRow). nat_lt c.epoch next ≡ true) (HasJoined next)
      (λ c e. below c.epoch next e) rows t.each;
  epochs = t.distinct;
}

pub cells_table : (next : ℕ) (rows : List CellRow) → AreCells next rows
    → IsTable name_order cell_name_of cells_keep next rows
cells_table next rows h = record {
  rising = h.rising;
  few = h.few;
  each = each_weaker (HasJoined next) (λ (c : CellRow). nat_lt c.epoch next ≡ true)
      (λ c lt. is_below c.epoch next lt) rows h.each;
  wanted = omega (arith, sum_zero rows);
  distinct = h.epochs;
}

pub AreDomains-table : (next : ℕ) (rows : List DomainRow) → IsTable name_order domain_name_of domains_keep next rows
    → AreDomains rows
AreDomains-table next rows t = record { rising = t.rising; few = t.few }

-- any row of a domain suits
each_suits : (rows : List DomainRow) → AllByRecursion (λ (d : DomainRow). true ≡ true) rows
each_suits [] = tt
each_suits (row ∷ rows) = (refl, each_suits rows)

pub domains_table : (next : ℕ) (rows : List DomainRow) → AreDomains rows
    → IsTable name_order domain_name_of domains_keep next rows
domains_table next rows h = record {
  rising = h.rising;
  few = h.few;
  each = each_suits rows;
  wanted = omega (arith, sum_zero rows);
  distinct = tt;
}
