-- What is spelled as a head is read so, and no head begins another.
use Rattle.std.proofs.Common.{◌≡◌, ℕ, ◌+◌, ◌∷◌, true, false, cond, Bool, List, [], ◌++◌, length, drop, Result, Ok, Err, refl, sym, ap, ◌∙◌, arith, append-nil, length-append}
use Rattle.std.specs.Prelude.{nat_eq, nat_lt, nat_le}
use Rattle.std.specs.List.{flat_map, AllByRecursion}
use Rattle.std.proofs.lemmas.Bool.Decides.{nat_tests}
use Rattle.std.proofs.lemmas.List.{drop_at}
use Rattle.cell_records.specs.declared.cell_row.CellRow.{CellRow}
use Rattle.diego_names.specs.Order.{name_order}
use Rattle.diego_names.proofs.Public.{IsKeyOrder-name_order}
use Rattle.lrp_records.specs.Place.{place_of, place_order}
use Rattle.lrp_records.specs.declared.actual.Actual.{Actual}
use Rattle.lrp_records.specs.declared.desired.Desired.{Desired}
use Rattle.lrp_records.proofs.Public.{IsKeyOrder-place_order}
use Rattle.task_records.specs.declared.task.Task.{Task}
use Rattle.wire_fields.specs.Laws.{TextStandsAt}
use Rattle.wire_fields.proofs.Public.{StandsAt-front, StandsAt-back}
use Rattle.bbs_model.specs.Limits.{most_transitions}
use Rattle.bbs_model.specs.Tables.{process_of, task_name_of, cell_name_of, domain_name_of}
use Rattle.bbs_model.specs.Valid.{IsValid}
use Rattle.bbs_model.specs.declared.domain_row.DomainRow.{DomainRow}
use Rattle.bbs_model.specs.declared.rows.Rows.{Rows}
use Rattle.bbs_codec.specs.Format.{nothing, old_or}
use Rattle.bbs_codec.specs.Formats.{desired}
use Rattle.bbs_codec.specs.RowFormats.{actual_in, task_row, cell_row, domain_row, domain_in}
use Rattle.head_codec.specs.Head.{Counts, counts, old_counts, counts_in, head_counts, counts_read, head_spelled, FitsHead, desired_keep, actual_keep, tasks_keep, cells_keep, domains_keep, counts_at, desired_at, actual_at, tasks_at, cells_at, domains_at, head_ended, head_reading}
use Rattle.bbs_codec.specs.declared.fault.CodecFault.{CodecFault}
use Rattle.bbs_codec.specs.declared.fault.CodecFault.TheVariants.{BadField, Trailing}
use Rattle.bbs_codec.proofs.Public.{laws-desired, laws-task_row, laws-cell_row, IsFormat-actual_in, IsFormat-domain_in}
use Rattle.head_codec.proofs.HeadParts.{Parts, parts_last, parts_one}
use Rattle.head_codec.proofs.ReadTables.{table_again}
use Rattle.head_codec.proofs.RowLengths.{IsFormat-counts_in}
use Rattle.head_codec.proofs.Tables.{desired_table, actual_table, tasks_table, cells_table, domains_table}

-- rows of domains that have no spelling are none
none_there : (rows : List DomainRow) → AllByRecursion (nothing {X = DomainRow}).Fits rows → length rows ≡ 0
none_there [] fits = refl
none_there (row ∷ rows) fits = absurd fits.0

-- the counts of rows that have a spelling have one
counts_fit : (version : ℕ) (rows : Rows) → FitsHead version rows → (counts_in version).Fits (head_counts rows)
counts_fit version rows fits = by (nat_eq version 1) fits.domains
  where
    v : IsValid rows
    v = fits.valid

    by : (b : Bool) → AllByRecursion (old_or b nothing domain_row).Fits rows.domains
        → (old_or b old_counts counts).Fits (head_counts rows)
    by true none = (
      none_there rows.domains none,
      (
        omega (arith, v.next),
        (
          (omega (arith, v.desired.few), omega (arith, v.actual.few)),
          (omega (arith, v.tasks.few), omega (arith, v.cells.few)),
        ),
      ),
    )
    by false some = (
      omega (arith, v.next),
      (
        (omega (arith, v.desired.few), omega (arith, v.actual.few)),
        (omega (arith, v.tasks.few), (omega (arith, v.cells.few), omega (arith, v.domains.few))),
      ),
    )

-- the parts of a head that is spelled in front
parts_again : (version : ℕ) (rows : Rows) (bytes : List ℕ) → FitsHead version rows
    → TextStandsAt bytes 0 (head_spelled version rows) → Parts version bytes rows (length (head_spelled version rows))
unfolding head_spelled counts_at desired_at actual_at tasks_at cells_at domains_at
parts_again version rows bytes fits s0 =
    let next : ℕ = rows.next in
    let v = fits.valid in
    let ct : List ℕ = (counts_in version).spelling (head_counts rows) in
    let dt : List ℕ = flat_map desired.spelling rows.desired in
    let at : List ℕ = flat_map (actual_in version).spelling rows.actual in
    let kt : List ℕ = flat_map task_row.spelling rows.tasks in
    let rt : List ℕ = flat_map cell_row.spelling rows.cells in
    let mt : List ℕ = flat_map (domain_in version).spelling rows.domains in
    let rest : List ℕ = dt ++ (at ++ (kt ++ (rt ++ mt))) in
    let s1 = StandsAt-back bytes 0 ct rest s0 in
    let s2 = StandsAt-back bytes (0 + length ct) dt (at ++ (kt ++ (rt ++ mt))) s1 in
    let s3 = StandsAt-back bytes (0 + length ct + length dt) at (kt ++ (rt ++ mt)) s2 in
    let s4 = StandsAt-back bytes (0 + length ct + length dt + length at) kt (rt ++ mt) s3 in
    let s5 = StandsAt-back bytes (0 + length ct + length dt + length at + length kt) rt mt s4 in
    let in_range : nat_le next most_transitions ≡ true = grind (arith, nat_tests, v.next) in
    let c : Counts × ℕ = (head_counts rows, 0 + length ct) in
    let d : List Desired × ℕ = (rows.desired, 0 + length ct + length dt) in
    let a : List Actual × ℕ = (rows.actual, 0 + length ct + length dt + length at) in
    let t : List Task × ℕ = (rows.tasks, 0 + length ct + length dt + length at + length kt) in
    let r : List CellRow × ℕ = (rows.cells, 0 + length ct + length dt + length at + length kt + length rt) in
    let m : List DomainRow × ℕ = (
      rows.domains,
      0 + length ct + length dt + length at + length kt + length rt + length
          mt,
    ) in
    let e0 : counts_at version bytes ≡ Ok c = ap counts_read
    ((IsFormat-counts_in version).again bytes 0 (head_counts rows) (counts_fit version rows fits)
    (StandsAt-front bytes 0 ct rest s0))
    ∙ ap (λ (b : Bool). cond b (Ok c) (Err (BadField 0))) in_range in
    let e1 : desired_at next (length rows.desired) bytes c.1 ≡ Ok d =
    table_again name_order process_of IsKeyOrder-name_order desired_keep next desired laws-desired.field
    rows.desired bytes c.1
    (desired_table next rows.desired v.desired) fits.desired
    (StandsAt-front bytes c.1 dt (at ++ (kt ++ (rt ++ mt))) s1) in
    let e2 : actual_at version next (length rows.actual) bytes d.1 ≡ Ok a =
    table_again place_order place_of IsKeyOrder-place_order actual_keep next (actual_in version)
    (IsFormat-actual_in version) rows.actual bytes d.1
    (actual_table next rows.actual v.actual) fits.actual (StandsAt-front bytes d.1 at (kt ++ (rt ++ mt)) s2) in
    let e3 : tasks_at next (length rows.tasks) bytes a.1 ≡ Ok t =
    table_again name_order task_name_of IsKeyOrder-name_order tasks_keep next task_row laws-task_row.field
    rows.tasks bytes a.1
    (tasks_table next rows.tasks v.tasks) fits.tasks (StandsAt-front bytes a.1 kt (rt ++ mt) s3) in
    let e4 : cells_at next (length rows.cells) bytes t.1 ≡ Ok r =
    table_again name_order cell_name_of IsKeyOrder-name_order cells_keep next cell_row laws-cell_row.field
    rows.cells bytes t.1
    (cells_table next rows.cells v.cells) fits.cells (StandsAt-front bytes t.1 rt mt s4) in
    let e5 : domains_at version next (length rows.domains) bytes r.1 ≡ Ok m =
    table_again name_order domain_name_of IsKeyOrder-name_order domains_keep next (domain_in version)
    (IsFormat-domain_in version) rows.domains bytes r.1
    (domains_table next rows.domains v.domains) fits.domains s5 in
    record {
      c = c;
      d = d;
      a = a;
      t = t;
      r = r;
      m = m;
      counts_are = e0;
      desired_are = e1;
      actual_are = e2;
      tasks_are = e3;
      cells_are = e4;
      domains_are = e5;
      rows_are = refl;
      after_is = omega (
        arith,
        length-append ct rest,
        length-append dt (at ++ (kt ++ (rt ++ mt))),
        length-append at (kt ++ (rt ++ mt)),
        length-append kt (rt ++ mt),
        length-append rt mt,
      );
    }

ended_there : (bytes : List ℕ) (rows : Rows) (at : ℕ) → at ≡ length bytes → head_ended bytes rows at ≡ Ok rows
ended_there bytes rows at e = by_test (nat_lt at (length bytes)) refl
  where
    by_test : (b : Bool) → nat_lt at (length bytes) ≡ b → cond b (Err (Trailing at)) (Ok rows) ≡ Ok rows
    by_test true h = absurd (grind (arith, nat_tests, h, e))
    by_test false h = refl

-- a head that was spelled is read back
pub head_again : (version : ℕ) (rows : Rows) → FitsHead version rows
    → head_reading version (head_spelled version rows) ≡ Ok rows
unfolding head_reading
head_again version rows fits =
    let bytes : List ℕ = head_spelled version rows in
    let last : Rows → ℕ → Result Rows CodecFault = λ w n. head_ended bytes w n in
    parts_last version bytes last rows (length bytes) (parts_again version rows bytes fits
    (record { rest = []; parts = sym (append-nil bytes) }))
    ∙ ended_there bytes rows (length bytes) refl

-- no head begins another
pub head_ends : (version : ℕ) (a b : Rows) (x y : List ℕ) → FitsHead version a → FitsHead version b
    → head_spelled version a ++ x ≡ head_spelled version b ++ y → (a ≡ b) × (x ≡ y)
head_ends version a b x y fits_a fits_b e =
    let bytes : List ℕ = head_spelled version a ++ x in
    let one = parts_again version a bytes fits_a (record { rest = x; parts = refl }) in
    let other = parts_again version b bytes fits_b (record { rest = y; parts = e }) in
    let same : a ≡ b = (parts_one version bytes a b (length (head_spelled version a))
    (length (head_spelled version b)) one other).0 in
    let text : List ℕ = head_spelled version b in (
      same,
      sym (drop_at text x (length text) refl)
          ∙ ap (drop (length text)) (ap (λ (rows : Rows). head_spelled version rows ++ x) (sym same) ∙ e)
          ∙ drop_at text y (length text) refl,
    )
