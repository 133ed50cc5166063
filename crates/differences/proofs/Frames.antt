-- Events leave the rows at all keys but their own as they were.
use Rattle.std.proofs.Common.{◌≡◌, ℕ, List, [], ◌∷◌, map, Option, refl, ap, sym, ◌∙◌}
use Rattle.diego_names.proofs.Public.{IsKeyOrder-name_order}
use Rattle.diego_names.specs.Order.{name_order}
use Rattle.diego_names.specs.declared.key.Key.{Key}
use Rattle.lrp_records.proofs.Public.{IsKeyOrder-place_order}
use Rattle.lrp_records.specs.Place.{place_of, place_order}
use Rattle.lrp_records.specs.declared.actual.Actual.{Actual}
use Rattle.lrp_records.specs.declared.presence.Presence.{Presence}
use Rattle.row_tables.proofs.Public.{find_row-put_row_other, find_row-without_row_other}
use Rattle.bbs_model.specs.Step.{with_row, without_place_of}
use Rattle.bbs_model.specs.Tables.{process_of, task_name_of, cell_name_of, domain_name_of, find_desired, find_actual, find_task, find_cell, find_domain}
use Rattle.bbs_model.specs.declared.event.Change.{Change}
use Rattle.bbs_model.specs.declared.event.Change.TheVariants.{Created, Changed, Removed}
use Rattle.bbs_model.specs.declared.event.Event.{Event}
use Rattle.bbs_model.specs.declared.event.Events.{Events}
use Rattle.bbs_model.specs.declared.event.Row.{Row}
use Rattle.bbs_model.specs.declared.event.Row.TheVariants as row
use Rattle.bbs_model.specs.declared.rows.Rows.{Rows}
use Rattle.event_laws.specs.Told.{TellAll, both_events, with_change, with_event, with_events}
use Rattle.differences.specs.Renewal.{AreApart, IsCellApart, IsDomainApart, IsKeyApart, IsProcessApart, IsTaskApart}

-- the rows of events
abbrev pub rows_in : List Event → List Row
rows_in es = map (λ (e : Event). e.row) es

module _ {K A : Type 0} (find : Rows → K → A) (Apart : Row → K → Type 0)
    (put : (r : Row) (rows : Rows) (q : K) → Apart r q → find (with_row rows r) q ≡ find rows q)
    (drop : (r : Row) (rows : Rows) (q : K) → Apart r q → find (without_place_of rows r) q ≡ find rows q) where
  after_change : (change : Change) (r : Row) (rows : Rows) (q : K) → Apart r q
      → find (with_change change r rows) q ≡ find rows q
  after_change Created r rows q h = put r rows q h
  after_change Changed r rows q h = put r rows q h
  after_change Removed r rows q h = drop r rows q h

  after_all : (es : List Event) (rows : Rows) (q : K) → AreApart Apart (rows_in es) q
      → find (with_events es rows) q ≡ find rows q
  after_all [] rows q h = refl
  after_all (e ∷ es) rows q h = after_all es (with_event e rows) q h.1 ∙ after_change e.change e.row rows q h.0

desired-put : (r : Row) (rows : Rows) (q : List ℕ) → IsProcessApart r q
    → find_desired (with_row rows r) q ≡ find_desired rows q
desired-put (row.Desired d) rows q h = find_row-put_row_other name_order process_of IsKeyOrder-name_order q d
    rows.desired (λ e. h (sym e))
desired-put (row.Actual a) rows q h = refl
desired-put (row.Task t) rows q h = refl
desired-put (row.Cell c) rows q h = refl
desired-put (row.Domain d) rows q h = refl

desired-drop : (r : Row) (rows : Rows) (q : List ℕ) → IsProcessApart r q
    → find_desired (without_place_of rows r) q ≡ find_desired rows q
desired-drop (row.Desired d) rows q h = find_row-without_row_other name_order process_of IsKeyOrder-name_order q
    d.process rows.desired (λ e. h (sym e))
desired-drop (row.Actual a) rows q h = refl
desired-drop (row.Task t) rows q h = refl
desired-drop (row.Cell c) rows q h = refl
desired-drop (row.Domain d) rows q h = refl

-- the rows of an instance by their presence
abbrev rows_at : Rows → Key → Presence → Option Actual
rows_at rows key presence = find_actual rows key presence

actual-put : (r : Row) (rows : Rows) (q : Key) → IsKeyApart r q → rows_at (with_row rows r) q ≡ rows_at rows q
actual-put (row.Desired d) rows q h = refl
actual-put (row.Actual a) rows q h =
    λ i presence. find_row-put_row_other place_order place_of IsKeyOrder-place_order (q, presence) a rows.actual
    (λ e. h (sym (ap (λ (p : Key × Presence). p.0) e))) i
actual-put (row.Task t) rows q h = refl
actual-put (row.Cell c) rows q h = refl
actual-put (row.Domain d) rows q h = refl

actual-drop : (r : Row) (rows : Rows) (q : Key) → IsKeyApart r q → rows_at (without_place_of rows r) q ≡ rows_at rows q
actual-drop (row.Desired d) rows q h = refl
actual-drop (row.Actual a) rows q h =
    λ i presence. find_row-without_row_other place_order place_of IsKeyOrder-place_order (q, presence)
    (a.key, a.presence) rows.actual (λ e. h (sym (ap (λ (p : Key × Presence). p.0) e))) i
actual-drop (row.Task t) rows q h = refl
actual-drop (row.Cell c) rows q h = refl
actual-drop (row.Domain d) rows q h = refl

task-put : (r : Row) (rows : Rows) (q : List ℕ) → IsTaskApart r q → find_task (with_row rows r) q ≡ find_task rows q
task-put (row.Desired d) rows q h = refl
task-put (row.Actual a) rows q h = refl
task-put (row.Task t) rows q h = find_row-put_row_other name_order task_name_of IsKeyOrder-name_order q t rows.tasks
    (λ e. h (sym e))
task-put (row.Cell c) rows q h = refl
task-put (row.Domain d) rows q h = refl

task-drop : (r : Row) (rows : Rows) (q : List ℕ) → IsTaskApart r q
    → find_task (without_place_of rows r) q ≡ find_task rows q
task-drop (row.Desired d) rows q h = refl
task-drop (row.Actual a) rows q h = refl
task-drop (row.Task t) rows q h = find_row-without_row_other name_order task_name_of IsKeyOrder-name_order q t.name
    rows.tasks (λ e. h (sym e))
task-drop (row.Cell c) rows q h = refl
task-drop (row.Domain d) rows q h = refl

cell-put : (r : Row) (rows : Rows) (q : List ℕ) → IsCellApart r q → find_cell (with_row rows r) q ≡ find_cell rows q
cell-put (row.Desired d) rows q h = refl
cell-put (row.Actual a) rows q h = refl
cell-put (row.Task t) rows q h = refl
cell-put (row.Cell c) rows q h = find_row-put_row_other name_order cell_name_of IsKeyOrder-name_order q c rows.cells
    (λ e. h (sym e))
cell-put (row.Domain d) rows q h = refl

cell-drop : (r : Row) (rows : Rows) (q : List ℕ) → IsCellApart r q
    → find_cell (without_place_of rows r) q ≡ find_cell rows q
cell-drop (row.Desired d) rows q h = refl
cell-drop (row.Actual a) rows q h = refl
cell-drop (row.Task t) rows q h = refl
cell-drop (row.Cell c) rows q h = find_row-without_row_other name_order cell_name_of IsKeyOrder-name_order q c.cell
    rows.cells (λ e. h (sym e))
cell-drop (row.Domain d) rows q h = refl

domain-put : (r : Row) (rows : Rows) (q : List ℕ) → IsDomainApart r q
    → find_domain (with_row rows r) q ≡ find_domain rows q
domain-put (row.Desired d) rows q h = refl
domain-put (row.Actual a) rows q h = refl
domain-put (row.Task t) rows q h = refl
domain-put (row.Cell c) rows q h = refl
domain-put (row.Domain d) rows q h = find_row-put_row_other name_order domain_name_of IsKeyOrder-name_order q d
    rows.domains (λ e. h (sym e))

domain-drop : (r : Row) (rows : Rows) (q : List ℕ) → IsDomainApart r q
    → find_domain (without_place_of rows r) q ≡ find_domain rows q
domain-drop (row.Desired d) rows q h = refl
domain-drop (row.Actual a) rows q h = refl
domain-drop (row.Task t) rows q h = refl
domain-drop (row.Cell c) rows q h = refl
domain-drop (row.Domain d) rows q h = find_row-without_row_other name_order domain_name_of IsKeyOrder-name_order q
    d.domain rows.domains (λ e. h (sym e))

module _ (old new : Rows) (events : Events) (t : TellAll old new events) where
  abbrev pub touched : List Row
  touched = rows_in (both_events events)

  pub desired_stays : (q : List ℕ) → AreApart IsProcessApart touched q → find_desired new q ≡ find_desired old q
  desired_stays q h = ap (λ (r : Rows). find_desired r q) t.all ∙ after_all find_desired IsProcessApart desired-put
      desired-drop (both_events events) old q h

  pub actual_stays : (q : Key) → AreApart IsKeyApart touched q → (presence : Presence)
      → find_actual new q presence ≡ find_actual old q presence
  actual_stays q h presence =
      ap (λ (r : Rows). find_actual r q presence) t.all
      ∙ ap (λ (f : Presence → Option Actual). f presence) (after_all rows_at IsKeyApart actual-put actual-drop
      (both_events events) old q h)

  pub task_stays : (q : List ℕ) → AreApart IsTaskApart touched q → find_task new q ≡ find_task old q
  task_stays q h = ap (λ (r : Rows). find_task r q) t.all ∙ after_all find_task IsTaskApart task-put task-drop
      (both_events events) old q h

  pub cell_stays : (q : List ℕ) → AreApart IsCellApart touched q → find_cell new q ≡ find_cell old q
  cell_stays q h = ap (λ (r : Rows). find_cell r q) t.all ∙ after_all find_cell IsCellApart cell-put cell-drop
      (both_events events) old q h

  pub domain_stays : (q : List ℕ) → AreApart IsDomainApart touched q → find_domain new q ≡ find_domain old q
  domain_stays q h = ap (λ (r : Rows). find_domain r q) t.all ∙ after_all find_domain IsDomainApart domain-put
      domain-drop (both_events events) old q h
