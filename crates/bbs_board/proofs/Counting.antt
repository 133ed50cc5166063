-- A command puts two rows at most.
use Rattle.std.proofs.Common.{ℕ, ◌+◌, ◌-◌, ◌*◌, ◌^◌, ◌≤◌, ◌<◌, Bool, true, false, cond, Option, Some, None, List, [], ◌∷◌, length, arith}
use Rattle.std.specs.FinMap.Entries.{by_order}
use Rattle.std.specs.declared.cmp.Ordering.{Ordering}
use Rattle.std.specs.declared.cmp.Ordering.TheVariants.{Less, Equal, Greater}
use Rattle.std.specs.Ordering.{eq_by_cmp}
use Rattle.diego_names.specs.Order.{name_order}
use Rattle.lrp_records.specs.Place.{place_of, place_order}
use Rattle.row_tables.specs.Table.{put_row, without_row}
use Rattle.bbs_model.specs.Step.{with_row, without_place_of, edited, edited_again, changed_by, attempt_of, rows_after}
use Rattle.bbs_model.specs.Tables.{process_of, task_name_of, cell_name_of, domain_name_of}
use Rattle.bbs_model.specs.declared.attempt.Attempt.{Attempt}
use Rattle.bbs_model.specs.declared.attempt.Attempt.TheVariants.{Refuse, Keep, Change}
use Rattle.bbs_model.specs.declared.attempt.Edit.{Edit}
use Rattle.bbs_model.specs.declared.attempt.Edit.TheVariants.{Put, Drop}
use Rattle.bbs_model.specs.declared.command.Command.{Command}
use Rattle.bbs_model.specs.declared.event.Row.{Row}
use Rattle.bbs_model.specs.declared.event.Row.TheVariants as row
use Rattle.bbs_model.specs.declared.rows.Rows.{Rows}
use Rattle.bbs_board.specs.Room.{row_count, most_rows, places_left, calls_for}

module _ {K X : Type 0} (R : K → K → Ordering) (key : X → K) where
  few_by : (o : Ordering) (a b c : List X) (n : ℕ) → length a ≤ n → length b ≤ n → length c ≤ n
      → length (by_order o a b c) ≤ n
  few_by Less a b c n less same more = less
  few_by Equal a b c n less same more = same
  few_by Greater a b c n less same more = more

  few-put : (r : X) (xs : List X) → length (put_row R key r xs) ≤ length xs + 1
  few-put r [] = omega arith
  few-put r (x ∷ xs) =
      let rest = few-put r xs in
      few_by (R (key r) (key x)) (r ∷ x ∷ xs) (r ∷ xs) (x ∷ put_row R key r xs) (length (x ∷ xs) + 1) (omega arith)
      (omega arith) (omega (arith, rest))

  few_if : (b : Bool) (xs ys : List X) (n : ℕ) → length xs ≤ n → length ys ≤ n → length (cond b xs ys) ≤ n
  few_if true xs ys n one two = one
  few_if false xs ys n one two = two

  few-without : (k : K) (xs : List X) → length (without_row R key k xs) ≤ length xs
  few-without k [] = omega arith
  few-without k (x ∷ xs) =
      let rest = few-without k xs in
      few_if (eq_by_cmp R k (key x)) (without_row R key k xs) (x ∷ without_row R key k xs) (length (x ∷ xs))
      (omega (arith, rest)) (omega (arith, rest))

few_with : (rows : Rows) (r : Row) → row_count (with_row rows r) ≤ row_count rows + 1
few_with rows (row.Desired d) = let few = few-put name_order process_of d rows.desired in omega (arith, few)
few_with rows (row.Actual a) = let few = few-put place_order place_of a rows.actual in omega (arith, few)
few_with rows (row.Task t) = let few = few-put name_order task_name_of t rows.tasks in omega (arith, few)
few_with rows (row.Cell c) = let few = few-put name_order cell_name_of c rows.cells in omega (arith, few)
few_with rows (row.Domain d) = let few = few-put name_order domain_name_of d rows.domains in omega (arith, few)

few_without : (rows : Rows) (r : Row) → row_count (without_place_of rows r) ≤ row_count rows
few_without rows (row.Desired d) = let few = few-without name_order process_of d.process rows.desired in
    omega (arith, few)
few_without rows (row.Actual a) = let few = few-without place_order place_of (a.key, a.presence) rows.actual in
    omega (arith, few)
few_without rows (row.Task t) = let few = few-without name_order task_name_of t.name rows.tasks in omega (arith, few)
few_without rows (row.Cell c) = let few = few-without name_order cell_name_of c.cell rows.cells in omega (arith, few)
few_without rows (row.Domain d) = let few = few-without name_order domain_name_of d.domain rows.domains in
    omega (arith, few)

few_edited : (rows : Rows) (edit : Edit) → row_count (edited rows edit) ≤ row_count rows + 1
few_edited rows (Put r) = few_with rows r
few_edited rows (Drop r) = let few = few_without rows r in omega (arith, few)

few_again : (rows : Rows) (edit : Option Edit) → row_count (edited_again rows edit) ≤ row_count rows + 1
few_again rows None = omega arith
few_again rows (Some edit) = few_edited rows edit

few_changed : (rows : Rows) (attempt : Attempt) → row_count (changed_by rows attempt) ≤ row_count rows + 2
few_changed rows (Refuse why) = omega arith
few_changed rows Keep = omega arith
few_changed rows (Change first second) =
    let one = few_edited rows first in
    let two = few_again (edited rows first) second in
    omega (arith, one, two)

pub few_after : (rows : Rows) (c : Command) → row_count (rows_after rows c) ≤ row_count rows + 2
few_after rows c = few_changed rows (attempt_of rows c)

-- ---- room

-- more room is room for as many calls
pub calls_more : (r i p r' i' p' : ℕ) → r ≤ r' → i ≤ i' → p ≤ p' → calls_for r i p ≤ calls_for r' i' p'
calls_more r i p r' i' p' one two three = omega (arith, one, two, three)

-- a call takes one at most
pub calls_less : (r i p r' i' p' : ℕ) → r ≤ r' + 2 → i ≤ i' + 1 → p ≤ p' + 2 → calls_for r i p ≤ calls_for r' i' p' + 1
calls_less r i p r' i' p' one two three = omega (arith, one, two, three)

-- room for a call has room for its head
pub some_places : (r i p : ℕ) → 0 < calls_for r i p → 0 < p
some_places r i p some = omega (arith, some)

-- what is left for heads after a command
pub places_kept : (p p' : ℕ) (rows rows' : Rows) → p ≤ p' → row_count rows' ≤ row_count rows + 2
    → places_left p rows ≤ places_left p' rows' + 2
places_kept p p' rows rows' more few = left_more most_rows p p' (row_count rows) (row_count rows') more few
  where
    left_more : (top p p' r r' : ℕ) → p ≤ p' → r' ≤ r + 2
        → (p - (r + 1)) + 2 ^ 32 * (p - top) ≤ (p' - (r' + 1)) + 2 ^ 32 * (p' - top) + 2
    left_more top p p' r r' more few = omega (arith, more, few)

-- and where the rows stay
pub places_more : (p p' : ℕ) (rows : Rows) → p ≤ p' → places_left p rows ≤ places_left p' rows
places_more p p' rows more = left_more most_rows p p' (row_count rows) more
  where
    left_more : (top p p' r : ℕ) → p ≤ p' → (p - (r + 1)) + 2 ^ 32 * (p - top) ≤ (p' - (r + 1)) + 2 ^ 32 * (p' - top)
    left_more top p p' r more = omega (arith, more)

-- where the rows stay and only the places are more
pub calls_kept : (r i p p' : ℕ) (rows : Rows) → p ≤ p'
    → calls_for r i (places_left p rows) ≤ calls_for r i (places_left p' rows)
calls_kept r i p p' rows more = calls_more r i (places_left p rows) r i (places_left p' rows) (omega arith)
    (omega arith) (places_more p p' rows more)
