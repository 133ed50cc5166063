-- How many bytes the counts of a head take, and a row of each table.
use Rattle.std.proofs.Common.{◌≡◌, ℕ, ◌≤◌, length, refl, sym, ap, arith, length-append}
use Rattle.std.specs.Prelude.{◌++◌}
use Rattle.std.specs.Int.{w32, w64}
use Rattle.cell_records.specs.declared.cell_row.CellRow.{CellRow}
use Rattle.lrp_records.specs.declared.actual.Actual.{Actual}
use Rattle.lrp_records.specs.declared.desired.Desired.{Desired}
use Rattle.task_records.specs.declared.task.Task.{Task}
use Rattle.bbs_model.specs.declared.domain_row.DomainRow.{DomainRow}
use Rattle.wire_fields.specs.Field.{field_number}
use Rattle.wire_fields.proofs.Public.{length-field_u32, length-field_u64}
use Rattle.bbs_codec.specs.Format.{IsFormat}
use Rattle.bbs_codec.specs.Formats.{desired}
use Rattle.bbs_codec.specs.RowFormats.{actual, task_row, cell_row, domain_row}
use Rattle.bbs_codec.proofs.Public.{HasLaws, laws-both, laws-number32, laws-number64, laws-desired, laws-actual, laws-task_row, laws-cell_row, laws-domain_row, laws-seen_where, IsFormat-in}
use Rattle.head_codec.specs.Head.{Counts, counts, counts_of_old, old_counts_of, old_counts, counts_in}

laws-counts : HasLaws counts 28 28
laws-counts =
    laws-both laws-number64
    (laws-both (laws-both laws-number32 laws-number32) (laws-both laws-number32
    (laws-both laws-number32 laws-number32)))

-- counts without domains have as many parts as are told
no_domains : (c : Counts) → c.1.1.1.1 ≡ 0 → counts_of_old (old_counts_of c) ≡ c
no_domains c none = ap (λ (n : ℕ). (c.0, (c.1.0, (c.1.1.0, (c.1.1.1.0, n))))) (sym none)

laws-old_counts : HasLaws old_counts 24 24
laws-old_counts =
    laws-seen_where (record { made = no_domains; parted = λ x. refl; within = λ x. refl })
    (laws-both laws-number64 (laws-both (laws-both laws-number32 laws-number32)
    (laws-both laws-number32 laws-number32)))

pub IsFormat-counts_in : (version : ℕ) → IsFormat (counts_in version)
IsFormat-counts_in version = IsFormat-in laws-old_counts.field laws-counts.field version

-- the counts take 28 bytes
pub length-counts : (c : Counts) → length (counts.spelling c) ≡ 28
length-counts c =
    let d = field_number w32 c.1.0.0 in
    let a = field_number w32 c.1.0.1 in
    let t = field_number w32 c.1.1.0 in
    let r = field_number w32 c.1.1.1.0 in
    let m = field_number w32 c.1.1.1.1 in
    omega (
      arith,
      length-append (field_number w64 c.0) ((d ++ a) ++ (t ++ (r ++ m))),
      length-append (d ++ a) (t ++ (r ++ m)),
      length-append d a,
      length-append t (r ++ m),
      length-append r m,
      length-field_u64 c.0,
      length-field_u32 c.1.0.0,
      length-field_u32 c.1.0.1,
      length-field_u32 c.1.1.0,
      length-field_u32 c.1.1.1.0,
      length-field_u32 c.1.1.1.1,
    )

-- each row takes few bytes
pub short-desired : (x : Desired) → desired.Fits x → length (desired.spelling x) ≤ 344
short-desired x fits = omega (arith, laws-desired.most x fits)

pub short-actual : (x : Actual) → actual.Fits x → length (actual.spelling x) ≤ 344
short-actual x fits = omega (arith, laws-actual.most x fits)

pub short-task : (x : Task) → task_row.Fits x → length (task_row.spelling x) ≤ 344
short-task x fits = omega (arith, laws-task_row.most x fits)

pub short-cell : (x : CellRow) → cell_row.Fits x → length (cell_row.spelling x) ≤ 344
short-cell x fits = omega (arith, laws-cell_row.most x fits)

pub short-domain : (x : DomainRow) → domain_row.Fits x → length (domain_row.spelling x) ≤ 344
short-domain x fits = omega (arith, laws-domain_row.most x fits)

pub ruleset short = (short-desired, short-actual, short-task, short-cell, short-domain)
