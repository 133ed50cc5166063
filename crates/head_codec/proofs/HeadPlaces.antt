-- A fault of a head lies within its bytes.
use Rattle.std.proofs.Common.{◌≡◌, ℕ, zero, suc, ◌≤◌, Bool, true, false, cond, List, [], ◌∷◌, ◌++◌, length, Result, Ok, Err, subst, arith, IfOk}
use Rattle.std.specs.Prelude.{nat_eq, nat_lt, nat_le, slice_index_or}
use Rattle.std.specs.Int.{w16, w32, w64}
use Rattle.diego_names.specs.Order.{name_order}
use Rattle.lrp_records.specs.Place.{place_of, place_order}
use Rattle.wire_fields.specs.Reading.{◌>>=◌, number_at}
use Rattle.wire_fields.specs.declared.fault.FieldFault.{FieldFault}
use Rattle.bbs_model.specs.Limits.{most_transitions}
use Rattle.bbs_model.specs.Tables.{process_of, task_name_of, cell_name_of, domain_name_of}
use Rattle.bbs_model.specs.declared.rows.Rows.{Rows}
use Rattle.bbs_codec.specs.Format.{Format, both_at, old_or, format_in, nothing}
use Rattle.bbs_codec.specs.Formats.{key, amounts, desired}
use Rattle.bbs_codec.specs.RowFormats.{Reads, presence_readers, end_readers, holder, lrp_readers, task_readers, old_actual, actual, actual_in, task_row, cell_row, domain_row, domain_in}
use Rattle.head_codec.specs.Head.{Counts, counts, old_counts, counts_in, counts_read, desired_keep, actual_keep, tasks_keep, cells_keep, domains_keep, may_follow, row_kept, head_rows_at, counts_at, desired_at, actual_at, tasks_at, cells_at, domains_at, head_ended, head_reading, fault_place}
use Rattle.bbs_codec.specs.declared.fault.CodecFault.{CodecFault}
use Rattle.bbs_codec.specs.declared.fault.CodecFault.TheVariants.{BadField, Trailing}
use Rattle.bbs_codec.proofs.Public.{none_at}
use Rattle.head_codec.proofs.HeadParts.{rows_of, behind_cells, behind_tasks, behind_actual, behind_desired, behind_counts}
use Rattle.head_codec.proofs.Within.{IsWithin, within-number, within-name, within-optional_name, within-truth, within-seen, within-both, within-three, within-instance, within-none, within-alone, within-cases}

within-holder : IsWithin holder.read
within-holder = within-both within-instance within-name

presence_within : (place n : ℕ) → IsWithin (slice_index_or presence_readers n (none_at place))
presence_within place zero = within-alone _
presence_within place (suc zero) = within-alone _
presence_within place (suc (suc zero)) = within-alone _
presence_within place (suc (suc (suc n))) = within-none place

end_within : (place n : ℕ) → IsWithin (slice_index_or end_readers n (none_at place))
end_within place zero = within-alone _
end_within place (suc zero) = within-seen _ (within-number w64)
end_within place (suc (suc n)) = within-none place

lrp_within : (place n : ℕ) → IsWithin (slice_index_or lrp_readers n (none_at place))
lrp_within place zero = within-alone _
lrp_within place (suc zero) = within-seen _ within-holder
lrp_within place (suc (suc zero)) = within-seen _ within-holder
lrp_within place (suc (suc (suc zero))) = within-alone _
lrp_within place (suc (suc (suc (suc n)))) = within-none place

task_within : (place n : ℕ) → IsWithin (slice_index_or task_readers n (none_at place))
task_within place zero = within-alone _
task_within place (suc zero) = within-seen _ within-holder
task_within place (suc (suc zero)) = within-seen _ within-truth
task_within place (suc (suc (suc zero))) = within-seen _ within-truth
task_within place (suc (suc (suc (suc n)))) = within-none place

within-key : IsWithin key.read
within-key = within-seen _ (within-both within-name (within-number w32))

within-amounts : IsWithin amounts.read
within-amounts = within-seen _ (within-three (within-number w32) (within-number w32) (within-number w32))

within-desired : IsWithin desired.read
within-desired =
    within-seen _
    (within-three (within-both within-name within-name) (within-three (within-number w32) (within-number w32)
    (within-number w32))
    (within-three within-optional_name within-optional_name (within-number w16)))

within-nothing : {X : Type 0} → IsWithin (nothing {X = X}).read
within-nothing = record { ends = λ bytes at le. tt }

-- in each version, where it holds of both formats
within-in : {X : Type 0} (old latest : Format X) → IsWithin old.read → IsWithin latest.read → (version : ℕ)
    → IsWithin (format_in version old latest).read
within-in old latest was is version =
    elim (nat_eq version 1) as (λ b. IsWithin (old_or b old latest).read) [ true ↦ was | false ↦ is ]

within-old_actual : IsWithin old_actual.read
within-old_actual =
    within-seen _
    (within-three (within-three within-key (within-seen _ within-truth) (within-cases lrp_readers lrp_within))
    (within-both (within-number w32) (within-number w32)) within-truth)

within-actual : IsWithin actual.read
within-actual =
    within-seen _
    (within-three (within-three within-key (within-cases presence_readers presence_within)
    (within-cases lrp_readers lrp_within))
    (within-both (within-number w32) (within-number w32)) (within-both within-truth within-optional_name))

within-actual_in : (version : ℕ) → IsWithin (actual_in version).read
within-actual_in version = within-in old_actual actual within-old_actual within-actual version

within-task : IsWithin task_row.read
within-task =
    within-seen _
    (within-three (within-three within-name (within-number w64) (within-cases task_readers task_within))
    (within-three (within-number w32) (within-number w32) (within-number w32)) within-optional_name)

within-cell : IsWithin cell_row.read
within-cell =
    within-seen _
    (within-three (within-three within-name within-name within-optional_name) within-amounts
    (within-three (within-number w64) (within-number w64) within-truth))

within-domain : IsWithin domain_row.read
within-domain = within-seen _ (within-both within-name (within-cases end_readers end_within))

within-domain_in : (version : ℕ) → IsWithin (domain_in version).read
within-domain_in version = within-in nothing domain_row within-nothing within-domain version

-- a number of four bytes, and what stands behind it
within-count : {X : Type 0} {read : Reads X} → IsWithin read → IsWithin (both_at (number_at w32) read)
within-count is = within-both (within-number w32) is

within-old_counts : IsWithin old_counts.read
within-old_counts =
    within-seen _
    (within-both (within-number w64) (within-both (within-count (within-number w32))
    (within-count (within-number w32))))

within-counts : IsWithin counts.read
within-counts =
    within-both (within-number w64)
    (within-both (within-count (within-number w32)) (within-count (within-count (within-number w32))))

within-counts_in : (version : ℕ) → IsWithin (counts_in version).read
within-counts_in version = within-in old_counts counts within-old_counts within-counts version

-- what was read is good, or the place that is told is at most so far
abbrev Lies : {X : Type 0} → ℕ → (X → Type 0) → Result X CodecFault → Type 0
Lies most good (Ok x) = good x
Lies most good (Err fault) = fault_place fault ≤ most

-- the place behind what was read is within the bytes
abbrev EndsIn : {X : Type 0} → List ℕ → X × ℕ → Type 0
EndsIn bytes x = x.1 ≤ length bytes

bind_lies : {A B : Type 0} (most : ℕ) (good : A → Type 0) (fine : B → Type 0) (r : Result A CodecFault)
    (f : A → Result B CodecFault) → Lies most good r
    → ((x : A) → good x → Lies most fine (f x)) → Lies most fine (r >>= f)
bind_lies most good fine (Ok x) f h more = more x h
bind_lies most good fine (Err fault) f h more = h

row_lies : {X : Type 0} (follows : List X → X → Bool) (bytes : List ℕ) (done : List X × ℕ)
    (read : Result (X × ℕ) FieldFault) → done.1 ≤ length bytes
    → IfOk read (λ r. r.1 ≤ length bytes) → Lies (length bytes) (EndsIn bytes) (row_kept follows done read)
row_lies follows bytes done (Ok x) le h =
    elim (follows done.0 x.0) as (λ b. Lies (length bytes) (EndsIn bytes)
    (cond b (Ok (done.0 ++ x.0 ∷ [], x.1)) (Err (BadField done.1)))) [ true ↦ h | false ↦ le ]
row_lies follows bytes done (Err fault) le h = le

rows_lie : {X : Type 0} (read : Reads X) (follows : List X → X → Bool) → IsWithin read
    → (n : ℕ) (bytes : List ℕ) (done : List X × ℕ) → done.1 ≤ length bytes
    → Lies (length bytes) (EndsIn bytes) (head_rows_at read follows n bytes done)
rows_lie read follows is zero bytes done le = le
rows_lie read follows is (suc n) bytes done le =
    bind_lies (length bytes) (EndsIn bytes) (EndsIn bytes) (row_kept follows done (read bytes done.1))
    (λ more. head_rows_at read follows n bytes more)
    (row_lies follows bytes done (read bytes done.1) le (is.ends bytes done.1 le))
    (λ more h. rows_lie read follows is n bytes more h)

counts_lie : (bytes : List ℕ) (read : Result (Counts × ℕ) FieldFault) → IfOk read (λ r. r.1 ≤ length bytes)
    → Lies (length bytes) (EndsIn bytes) (counts_read read)
counts_lie bytes (Ok c) h =
    elim (nat_le c.0.0 most_transitions) as (λ b. Lies (length bytes) (EndsIn bytes) (cond b (Ok c) (Err (BadField 0))))
    [ true ↦ h | false ↦ omega arith ]
counts_lie bytes (Err fault) h = omega arith

ended_lies : (bytes : List ℕ) (rows : Rows) (at : ℕ) → at ≤ length bytes
    → Lies (length bytes) (λ _. Unit {0}) (head_ended bytes rows at)
ended_lies bytes rows at le =
    elim (nat_lt at (length bytes)) as (λ b. Lies (length bytes) (λ _. Unit {0}) (cond b (Err (Trailing at)) (Ok rows)))
    [ true ↦ le | false ↦ tt ]

head_lies : (version : ℕ) (bytes : List ℕ) → Lies (length bytes) (λ _. Unit {0}) (head_reading version bytes)
unfolding head_reading counts_at desired_at actual_at tasks_at cells_at domains_at
head_lies version bytes =
    let most : ℕ = length bytes in
    let any : Rows → Type 0 = λ _. Unit {0} in
    let last : Rows → ℕ → Result Rows CodecFault = λ w n. head_ended bytes w n in
    bind_lies most (EndsIn bytes) any (counts_at version bytes) (λ c. behind_counts version bytes last c)
    (counts_lie bytes ((counts_in version).read bytes 0) ((within-counts_in version).ends bytes 0 (omega arith)))
    (λ c in_c. bind_lies most (EndsIn bytes) any (desired_at c.0.0 c.0.1.0.0 bytes c.1)
    (λ d. behind_desired version bytes last c d)
    (rows_lie desired.read (may_follow name_order process_of desired_keep c.0.0) within-desired c.0.1.0.0 bytes
    ([], c.1) in_c)
    (λ d in_d. bind_lies most (EndsIn bytes) any (actual_at version c.0.0 c.0.1.0.1 bytes d.1)
    (λ a. behind_actual version bytes last c d a)
    (rows_lie (actual_in version).read (may_follow place_order place_of actual_keep c.0.0)
    (within-actual_in version) c.0.1.0.1 bytes ([], d.1) in_d)
    (λ a in_a. bind_lies most (EndsIn bytes) any (tasks_at c.0.0 c.0.1.1.0 bytes a.1)
    (λ t. behind_tasks version bytes last c d a t)
    (rows_lie task_row.read (may_follow name_order task_name_of tasks_keep c.0.0) within-task c.0.1.1.0 bytes
    ([], a.1) in_a)
    (λ t in_t. bind_lies most (EndsIn bytes) any (cells_at c.0.0 c.0.1.1.1.0 bytes t.1)
    (λ r. behind_cells version bytes last c d a t r)
    (rows_lie cell_row.read (may_follow name_order cell_name_of cells_keep c.0.0) within-cell c.0.1.1.1.0 bytes
    ([], t.1) in_t)
    (λ r in_r. bind_lies most (EndsIn bytes) any (domains_at version c.0.0 c.0.1.1.1.1 bytes r.1)
    (λ m. last (rows_of c d a t r m) m.1)
    (rows_lie (domain_in version).read (may_follow name_order domain_name_of domains_keep c.0.0)
    (within-domain_in version) c.0.1.1.1.1 bytes ([], r.1) in_r)
    (λ m in_m. ended_lies bytes (rows_of c d a t r m) m.1 in_m))))))

-- the place of a fault of a head is within its bytes
pub head_fault_lies : (version : ℕ) (bytes : List ℕ) (fault : CodecFault) → head_reading version bytes ≡ Err fault
    → fault_place fault ≤ length bytes
head_fault_lies version bytes fault e = subst (λ (r : Result Rows CodecFault). Lies (length bytes) (λ _. Unit {0}) r) e
    (head_lies version bytes)
