-- A head that is too long is told by its first bytes, and so no head is as long. It serves the laws of both.
use Rattle.std.proofs.Common.{◌≡◌, ℕ, ◌+◌, ◌*◌, ◌<◌, ◌≤◌, Bool, true, false, cond, List, ◌++◌, length, Result, Ok, Err, sym, ap, subst, ◌∙◌, arith, length-append, IfOk}
use Rattle.std.specs.Prelude.{nat_lt, nat_le}
use Rattle.std.proofs.lemmas.Bool.Decides.{nat_tests}
use Rattle.diego_names.specs.Order.{name_order}
use Rattle.lrp_records.specs.Place.{place_of, place_order}
use Rattle.wire_fields.specs.declared.fault.FieldFault.{FieldFault}
use Rattle.bbs_model.specs.Limits.{most_processes, most_actual, most_tasks, most_cells, most_domains, most_transitions}
use Rattle.bbs_model.specs.Tables.{process_of, task_name_of, cell_name_of, domain_name_of}
use Rattle.bbs_model.specs.declared.rows.Rows.{Rows}
use Rattle.bbs_codec.specs.Formats.{desired}
use Rattle.bbs_codec.specs.RowFormats.{actual_in, task_row, cell_row, domain_in}
use Rattle.bbs_codec.specs.declared.fault.CodecFault.{CodecFault}
use Rattle.bbs_codec.specs.declared.fault.CodecFault.TheVariants.{BadField, Trailing}
use Rattle.head_codec.specs.Head.{Counts, counts_in, counts_read, may_follow, desired_keep, actual_keep, tasks_keep, cells_keep, domains_keep, counts_at, desired_at, actual_at, tasks_at, cells_at, domains_at, head_ended, head_reading, longest_head}
use Rattle.head_codec.proofs.HeadParts.{rows_of, behind_cells, behind_tasks, behind_actual, behind_desired, behind_counts, parts_found}
use Rattle.head_codec.proofs.Local.{bind_same}
use Rattle.head_codec.proofs.LocalRows.{local-desired, local-actual_in, local-task, local-cell, local-domain_in, local-counts_in}
use Rattle.head_codec.proofs.LongTables.{full, table_ends, table_same}

-- where the parts of a head end at the latest
abbrev after_desired : ℕ
after_desired = 28 + 344 * most_processes

abbrev after_actual : ℕ
after_actual = after_desired + 344 * most_actual

abbrev after_tasks : ℕ
after_tasks = after_actual + 344 * most_tasks

abbrev after_cells : ℕ
after_cells = after_tasks + 344 * most_cells

abbrev after_domains : ℕ
after_domains = after_cells + 344 * most_domains

counts_end : (r : Result (Counts × ℕ) FieldFault) → IfOk r (λ c. c.1 ≤ 28) → IfOk (counts_read r) (λ c. c.1 ≤ 28)
counts_end (Ok c) h =
    elim (nat_le c.0.0 most_transitions) as (λ b. IfOk (cond b (Ok c) (Err (BadField 0))) (λ c. c.1 ≤ 28))
    [ true ↦ h | false ↦ tt ]
counts_end (Err fault) h = tt

ended_same : (bytes rest : List ℕ) (rows : Rows) (at : ℕ) → at < length bytes
    → head_ended (bytes ++ rest) rows at ≡ head_ended bytes rows at
ended_same bytes rest rows at lt =
    let first : nat_lt at (length (bytes ++ rest)) ≡ true = grind (arith, nat_tests, lt, length-append bytes rest) in
    let second : nat_lt at (length bytes) ≡ true = grind (arith, nat_tests, lt) in
    ap (λ (b : Bool). cond b (Err (Trailing at)) (Ok rows)) first
    ∙ sym (ap (λ (b : Bool). cond b (Err (Trailing at)) (Ok rows)) second)

module _ (version : ℕ) (bytes : List ℕ) where
  counts_few : IfOk (counts_at version bytes) (λ c. c.1 ≤ 28)
  unfolding counts_at
  counts_few = counts_end ((counts_in version).read bytes 0) ((local-counts_in version).ends bytes 0)

  desired_few : (next n at : ℕ) → at ≤ 28 → IfOk (desired_at next n bytes at) (λ d. d.1 ≤ after_desired)
  unfolding desired_at
  desired_few next n at le =
      table_ends desired.read (may_follow name_order process_of desired_keep next) most_processes local-desired
      (full name_order process_of desired_keep next) at n after_desired bytes (omega (arith, le))

  actual_few : (next n at : ℕ) → at ≤ after_desired
      → IfOk (actual_at version next n bytes at) (λ d. d.1 ≤ after_actual)
  unfolding actual_at
  actual_few next n at le =
      table_ends (actual_in version).read (may_follow place_order place_of actual_keep next) most_actual
      (local-actual_in version) (full place_order place_of actual_keep next) at n after_actual bytes
      (omega (arith, le))

  tasks_few : (next n at : ℕ) → at ≤ after_actual → IfOk (tasks_at next n bytes at) (λ d. d.1 ≤ after_tasks)
  unfolding tasks_at
  tasks_few next n at le =
      table_ends task_row.read (may_follow name_order task_name_of tasks_keep next) most_tasks local-task
      (full name_order task_name_of tasks_keep next) at n after_tasks bytes (omega (arith, le))

  cells_few : (next n at : ℕ) → at ≤ after_tasks → IfOk (cells_at next n bytes at) (λ d. d.1 ≤ after_cells)
  unfolding cells_at
  cells_few next n at le =
      table_ends cell_row.read (may_follow name_order cell_name_of cells_keep next) most_cells local-cell
      (full name_order cell_name_of cells_keep next) at n after_cells bytes (omega (arith, le))

  domains_few : (next n at : ℕ) → at ≤ after_cells
      → IfOk (domains_at version next n bytes at) (λ d. d.1 ≤ after_domains)
  unfolding domains_at
  domains_few next n at le =
      table_ends (domain_in version).read (may_follow name_order domain_name_of domains_keep next) most_domains
      (local-domain_in version) (full name_order domain_name_of domains_keep next) at n after_domains bytes
      (omega (arith, le))

  module _ (rest : List ℕ) (long : longest_head ≤ length bytes) where
    counts_same : counts_at version (bytes ++ rest) ≡ counts_at version bytes
    unfolding counts_at
    counts_same = ap counts_read ((local-counts_in version).same bytes rest 0 (omega (arith, long)))

    desired_same : (next n at : ℕ) → at ≤ 28 → desired_at next n (bytes ++ rest) at ≡ desired_at next n bytes at
    unfolding desired_at
    desired_same next n at le =
        table_same desired.read (may_follow name_order process_of desired_keep next) most_processes local-desired
        (full name_order process_of desired_keep next) at n bytes rest (omega (arith, le, long))

    actual_same : (next n at : ℕ) → at ≤ after_desired
        → actual_at version next n (bytes ++ rest) at ≡ actual_at version next n bytes at
    unfolding actual_at
    actual_same next n at le =
        table_same (actual_in version).read (may_follow place_order place_of actual_keep next) most_actual
        (local-actual_in version) (full place_order place_of actual_keep next) at n bytes rest
        (omega (arith, le, long))

    tasks_same : (next n at : ℕ) → at ≤ after_actual → tasks_at next n (bytes ++ rest) at ≡ tasks_at next n bytes at
    unfolding tasks_at
    tasks_same next n at le =
        table_same task_row.read (may_follow name_order task_name_of tasks_keep next) most_tasks local-task
        (full name_order task_name_of tasks_keep next) at n bytes rest (omega (arith, le, long))

    cells_same : (next n at : ℕ) → at ≤ after_tasks → cells_at next n (bytes ++ rest) at ≡ cells_at next n bytes at
    unfolding cells_at
    cells_same next n at le =
        table_same cell_row.read (may_follow name_order cell_name_of cells_keep next) most_cells local-cell
        (full name_order cell_name_of cells_keep next) at n bytes rest (omega (arith, le, long))

    domains_same : (next n at : ℕ) → at ≤ after_cells
        → domains_at version next n (bytes ++ rest) at ≡ domains_at version next n bytes at
    unfolding domains_at
    domains_same next n at le =
        table_same (domain_in version).read (may_follow name_order domain_name_of domains_keep next) most_domains
        (local-domain_in version) (full name_order domain_name_of domains_keep next) at n bytes rest
        (omega (arith, le, long))

    -- what stands behind so many bytes isn't looked at
    pub long_same : head_reading version (bytes ++ rest) ≡ head_reading version bytes
    unfolding head_reading
    long_same =
        let whole : List ℕ = bytes ++ rest in
        let ends : Rows → ℕ → Result Rows CodecFault = λ w n. head_ended whole w n in
        let last : Rows → ℕ → Result Rows CodecFault = λ w n. head_ended bytes w n in
        bind_same (λ c. c.1 ≤ 28) (counts_at version whole) (counts_at version bytes)
        (λ c. behind_counts version whole ends c) (λ c. behind_counts version bytes last c) counts_same counts_few
        (λ c in_c. bind_same (λ d. d.1 ≤ after_desired) (desired_at c.0.0 c.0.1.0.0 whole c.1)
        (desired_at c.0.0 c.0.1.0.0 bytes c.1) (λ d. behind_desired version whole ends c d)
        (λ d. behind_desired version bytes last c d) (desired_same c.0.0 c.0.1.0.0 c.1 in_c)
        (desired_few c.0.0 c.0.1.0.0 c.1 in_c)
        (λ d in_d. bind_same (λ a. a.1 ≤ after_actual) (actual_at version c.0.0 c.0.1.0.1 whole d.1)
        (actual_at version c.0.0 c.0.1.0.1 bytes d.1) (λ a. behind_actual version whole ends c d a)
        (λ a. behind_actual version bytes last c d a) (actual_same c.0.0 c.0.1.0.1 d.1 in_d)
        (actual_few c.0.0 c.0.1.0.1 d.1 in_d)
        (λ a in_a. bind_same (λ t. t.1 ≤ after_tasks) (tasks_at c.0.0 c.0.1.1.0 whole a.1)
        (tasks_at c.0.0 c.0.1.1.0 bytes a.1) (λ t. behind_tasks version whole ends c d a t)
        (λ t. behind_tasks version bytes last c d a t) (tasks_same c.0.0 c.0.1.1.0 a.1 in_a)
        (tasks_few c.0.0 c.0.1.1.0 a.1 in_a)
        (λ t in_t. bind_same (λ r. r.1 ≤ after_cells) (cells_at c.0.0 c.0.1.1.1.0 whole t.1)
        (cells_at c.0.0 c.0.1.1.1.0 bytes t.1) (λ r. behind_cells version whole ends c d a t r)
        (λ r. behind_cells version bytes last c d a t r) (cells_same c.0.0 c.0.1.1.1.0 t.1 in_t)
        (cells_few c.0.0 c.0.1.1.1.0 t.1 in_t)
        (λ r in_r. bind_same (λ m. m.1 ≤ after_domains) (domains_at version c.0.0 c.0.1.1.1.1 whole r.1)
        (domains_at version c.0.0 c.0.1.1.1.1 bytes r.1) (λ m. ends (rows_of c d a t r m) m.1)
        (λ m. last (rows_of c d a t r m) m.1) (domains_same c.0.0 c.0.1.1.1.1 r.1 in_r)
        (domains_few c.0.0 c.0.1.1.1.1 r.1 in_r)
        (λ m in_m. ended_same bytes rest (rows_of c d a t r m) m.1 (omega (arith, in_m, long))))))))

-- what is so of an answer is so of its value
of_ok : {A E : Type 0} (good : A → Type 0) (r : Result A E) (x : A) → r ≡ Ok x → IfOk r good → good x
of_ok {A} {E} good r x e h = subst (λ (s : Result A E). IfOk s good) e h

-- no head has so many bytes
pub head_shorter : (version : ℕ) (bytes : List ℕ) (rows : Rows) → head_reading version bytes ≡ Ok rows
    → length bytes < longest_head
head_shorter version bytes rows e =
    let found = parts_found version bytes rows e in
    let p = found.1 in
    let next : ℕ = p.c.0.0 in
    let c = of_ok (λ (x : Counts × ℕ). x.1 ≤ 28) _ p.c p.counts_are (counts_few version bytes) in
    let d = of_ok (λ x. x.1 ≤ after_desired) _ p.d p.desired_are
    (desired_few version bytes next p.c.0.1.0.0 p.c.1 c) in
    let a = of_ok (λ x. x.1 ≤ after_actual) _ p.a p.actual_are (actual_few version bytes next p.c.0.1.0.1 p.d.1 d) in
    let t = of_ok (λ x. x.1 ≤ after_tasks) _ p.t p.tasks_are (tasks_few version bytes next p.c.0.1.1.0 p.a.1 a) in
    let r = of_ok (λ x. x.1 ≤ after_cells) _ p.r p.cells_are (cells_few version bytes next p.c.0.1.1.1.0 p.t.1 t) in
    let m = of_ok (λ x. x.1 ≤ after_domains) _ p.m p.domains_are
    (domains_few version bytes next p.c.0.1.1.1.1 p.r.1 r) in
    omega (arith, found.2, p.after_is, m)
