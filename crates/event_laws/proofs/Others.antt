-- A command leaves the rows at all keys but its own as they were.
use Rattle.std.proofs.Common.{◌≡◌, ◌≢◌, List, ℕ, Option, Some, None, refl, ap, sym, ◌∙◌}
use Rattle.diego_names.specs.Order.{name_order}
use Rattle.diego_names.specs.declared.key.Key.{Key}
use Rattle.diego_names.proofs.Public.{IsKeyOrder-name_order}
use Rattle.lrp_records.specs.Place.{place_of, place_order}
use Rattle.lrp_records.specs.declared.actual.Actual.{Actual}
use Rattle.lrp_records.specs.declared.presence.Presence.{Presence}
use Rattle.lrp_records.proofs.Public.{IsKeyOrder-place_order}
use Rattle.row_tables.proofs.Public.{find_row-put_row_other, find_row-without_row_other}
use Rattle.bbs_model.specs.Found.{task_in, domain_in}
use Rattle.bbs_model.specs.Step.{changed_by, edited, edited_again, rows_after, attempt_of}
use Rattle.bbs_model.specs.Tables.{process_of, task_name_of, cell_name_of, domain_name_of, find_desired, find_actual, find_task, find_cell, find_domain}
use Rattle.bbs_model.specs.declared.attempt.Attempt.{Attempt}
use Rattle.bbs_model.specs.declared.attempt.Attempt.TheVariants.{Refuse, Keep, Change}
use Rattle.bbs_model.specs.declared.attempt.Edit.{Edit}
use Rattle.bbs_model.specs.declared.attempt.Edit.TheVariants.{Put, Drop}
use Rattle.bbs_model.specs.declared.command.Command.{Command}
use Rattle.bbs_model.specs.declared.command.Op.{Op}
use Rattle.bbs_model.specs.declared.event.Row.TheVariants as row
use Rattle.bbs_model.specs.declared.rows.Rows.{Rows}
use Rattle.event_laws.specs.Frame.{own_process, own_instance, own_cell, KeepsOthers}
use Rattle.event_laws.proofs.Own.{IsOwn, row_in, IsOwnAgain, AreOwn, own-attempt}

-- another key than the command's own is another than that of a row of its own
other_key : {K : Type 0} (own : Option K) (k q : K) → own ≡ Some k → own ≢ Some q → q ≢ k
other_key own k q is other same = other (is ∙ ap (λ x. Some x) (sym same))

module _ (rows : Rows) (asked : Op) where
  edited-desired : (edit : Edit) → IsOwn asked (row_in edit) → (q : List ℕ) → own_process asked ≢ Some q
      → find_desired (edited rows edit) q ≡ find_desired rows q
  edited-desired (Put (row.Desired d)) own q other =
      find_row-put_row_other name_order process_of IsKeyOrder-name_order q d rows.desired
      (other_key (own_process asked) d.process q own other)
  edited-desired (Put (row.Actual a)) own q other = refl
  edited-desired (Put (row.Task t)) own q other = refl
  edited-desired (Put (row.Cell c)) own q other = refl
  edited-desired (Put (row.Domain d)) own q other = refl
  edited-desired (Drop (row.Desired d)) own q other =
      find_row-without_row_other name_order process_of IsKeyOrder-name_order q d.process rows.desired
      (other_key (own_process asked) d.process q own other)
  edited-desired (Drop (row.Actual a)) own q other = refl
  edited-desired (Drop (row.Task t)) own q other = refl
  edited-desired (Drop (row.Cell c)) own q other = refl
  edited-desired (Drop (row.Domain d)) own q other = refl

  -- another instance, or another presence of it
  other_place : (a : Actual) (key : Key) (presence : Presence) → own_instance asked a.presence ≡ Some a.key
      → own_instance asked presence ≢ Some key
      → (key, presence) ≢ place_of a
  other_place a key presence own other same =
      other (ap (λ (p : Key × Presence). own_instance asked p.1) same ∙ own ∙ ap (λ (p : Key × Presence). Some p.0)
      (sym same))

  edited-actual : (edit : Edit) → IsOwn asked (row_in edit) → (key : Key) (presence : Presence)
      → own_instance asked presence ≢ Some key
      → find_actual (edited rows edit) key presence ≡ find_actual rows key presence
  edited-actual (Put (row.Desired d)) own key presence other = refl
  edited-actual (Put (row.Actual a)) own key presence other =
      find_row-put_row_other place_order place_of IsKeyOrder-place_order (key, presence) a rows.actual
      (other_place a key presence own other)
  edited-actual (Put (row.Task t)) own key presence other = refl
  edited-actual (Put (row.Cell c)) own key presence other = refl
  edited-actual (Put (row.Domain d)) own key presence other = refl
  edited-actual (Drop (row.Desired d)) own key presence other = refl
  edited-actual (Drop (row.Actual a)) own key presence other =
      find_row-without_row_other place_order place_of IsKeyOrder-place_order (key, presence) (place_of a) rows.actual
      (other_place a key presence own other)
  edited-actual (Drop (row.Task t)) own key presence other = refl
  edited-actual (Drop (row.Cell c)) own key presence other = refl
  edited-actual (Drop (row.Domain d)) own key presence other = refl

  edited-tasks : (edit : Edit) → IsOwn asked (row_in edit) → (q : List ℕ) → task_in asked ≢ Some q
      → find_task (edited rows edit) q ≡ find_task rows q
  edited-tasks (Put (row.Desired d)) own q other = refl
  edited-tasks (Put (row.Actual a)) own q other = refl
  edited-tasks (Put (row.Task t)) own q other =
      find_row-put_row_other name_order task_name_of IsKeyOrder-name_order q t rows.tasks
      (other_key (task_in asked) t.name q own other)
  edited-tasks (Put (row.Cell c)) own q other = refl
  edited-tasks (Put (row.Domain d)) own q other = refl
  edited-tasks (Drop (row.Desired d)) own q other = refl
  edited-tasks (Drop (row.Actual a)) own q other = refl
  edited-tasks (Drop (row.Task t)) own q other =
      find_row-without_row_other name_order task_name_of IsKeyOrder-name_order q t.name rows.tasks
      (other_key (task_in asked) t.name q own other)
  edited-tasks (Drop (row.Cell c)) own q other = refl
  edited-tasks (Drop (row.Domain d)) own q other = refl

  edited-cells : (edit : Edit) → IsOwn asked (row_in edit) → (q : List ℕ) → own_cell asked ≢ Some q
      → find_cell (edited rows edit) q ≡ find_cell rows q
  edited-cells (Put (row.Desired d)) own q other = refl
  edited-cells (Put (row.Actual a)) own q other = refl
  edited-cells (Put (row.Task t)) own q other = refl
  edited-cells (Put (row.Cell c)) own q other =
      find_row-put_row_other name_order cell_name_of IsKeyOrder-name_order q c rows.cells
      (other_key (own_cell asked) c.cell q own other)
  edited-cells (Put (row.Domain d)) own q other = refl
  edited-cells (Drop (row.Desired d)) own q other = refl
  edited-cells (Drop (row.Actual a)) own q other = refl
  edited-cells (Drop (row.Task t)) own q other = refl
  edited-cells (Drop (row.Cell c)) own q other =
      find_row-without_row_other name_order cell_name_of IsKeyOrder-name_order q c.cell rows.cells
      (other_key (own_cell asked) c.cell q own other)
  edited-cells (Drop (row.Domain d)) own q other = refl

  edited-domains : (edit : Edit) → IsOwn asked (row_in edit) → (q : List ℕ) → domain_in asked ≢ Some q
      → find_domain (edited rows edit) q ≡ find_domain rows q
  edited-domains (Put (row.Desired d)) own q other = refl
  edited-domains (Put (row.Actual a)) own q other = refl
  edited-domains (Put (row.Task t)) own q other = refl
  edited-domains (Put (row.Cell c)) own q other = refl
  edited-domains (Put (row.Domain d)) own q other =
      find_row-put_row_other name_order domain_name_of IsKeyOrder-name_order q d rows.domains
      (other_key (domain_in asked) d.domain q own other)
  edited-domains (Drop (row.Desired d)) own q other = refl
  edited-domains (Drop (row.Actual a)) own q other = refl
  edited-domains (Drop (row.Task t)) own q other = refl
  edited-domains (Drop (row.Cell c)) own q other = refl
  edited-domains (Drop (row.Domain d)) own q other =
      find_row-without_row_other name_order domain_name_of IsKeyOrder-name_order q d.domain rows.domains
      (other_key (domain_in asked) d.domain q own other)

  edit_keeps : (edit : Edit) → IsOwn asked (row_in edit) → KeepsOthers asked rows (edited rows edit)
  edit_keeps edit own = record {
    desired = edited-desired edit own;
    actual = edited-actual edit own;
    tasks = edited-tasks edit own;
    cells = edited-cells edit own;
    domains = edited-domains edit own;
  }

  same_keeps : KeepsOthers asked rows rows
  same_keeps = record {
    desired = λ q other. refl;
    actual = λ q presence other. refl;
    tasks = λ q other. refl;
    cells = λ q other. refl;
    domains = λ q other. refl;
  }

edits_keep : (rows : Rows) (asked : Op) (edit : Option Edit) → IsOwnAgain rows asked edit
    → KeepsOthers asked rows (edited_again rows edit)
edits_keep rows asked None own = same_keeps rows asked
edits_keep rows asked (Some edit) own = edit_keeps rows asked edit own.own

attempt_keeps : (rows : Rows) (asked : Op) (attempt : Attempt) → AreOwn rows asked attempt
    → KeepsOthers asked rows (changed_by rows attempt)
attempt_keeps rows asked (Refuse why) own = same_keeps rows asked
attempt_keeps rows asked Keep own = same_keeps rows asked
attempt_keeps rows asked (Change first second) own =
    let one = edit_keeps rows asked first own.0.own in
    let two = edits_keep (edited rows first) asked second own.1 in
    record {
      desired = λ q other. two.desired q other ∙ one.desired q other;
      actual = λ q presence other. two.actual q presence other ∙ one.actual q presence other;
      tasks = λ q other. two.tasks q other ∙ one.tasks q other;
      cells = λ q other. two.cells q other ∙ one.cells q other;
      domains = λ q other. two.domains q other ∙ one.domains q other;
    }

pub keeps_others : (rows : Rows) (c : Command) → KeepsOthers c.op rows (rows_after rows c)
keeps_others rows c = attempt_keeps rows c.op (attempt_of rows c) (own-attempt rows c.now c.op)
