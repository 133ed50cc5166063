-- The parts of a head, which are read one behind the other.
use Rattle.std.proofs.Common.{◌≡◌, ℕ, ◌≤◌, true, false, cond, Bool, List, length, Result, Ok, Err, refl, sym, ap, subst, ◌∙◌, arith}
use Rattle.std.specs.Prelude.{nat_lt, nat_le}
use Rattle.std.proofs.lemmas.Bool.Decides.{nat_tests}
use Rattle.cell_records.specs.declared.cell_row.CellRow.{CellRow}
use Rattle.lrp_records.specs.declared.actual.Actual.{Actual}
use Rattle.lrp_records.specs.declared.desired.Desired.{Desired}
use Rattle.task_records.specs.declared.task.Task.{Task}
use Rattle.wire_fields.specs.Reading.{◌>>=◌}
use Rattle.wire_fields.specs.declared.fault.FieldFault.{FieldFault}
use Rattle.wire_fields.proofs.Public.{bind_ok}
use Rattle.bbs_model.specs.Limits.{most_transitions}
use Rattle.bbs_model.specs.declared.domain_row.DomainRow.{DomainRow}
use Rattle.bbs_model.specs.declared.rows.Rows.{Rows}
use Rattle.head_codec.specs.Head.{Counts, counts_read, counts_at, desired_at, actual_at, tasks_at, cells_at, domains_at, head_ended, head_reading}
use Rattle.bbs_codec.specs.declared.fault.CodecFault.{CodecFault}
use Rattle.bbs_codec.specs.declared.fault.CodecFault.TheVariants.{BadField, Trailing}
use Rattle.head_codec.proofs.RowLists.{same_ok}
use Rattle.head_codec.proofs.Steps.{bind_is}

-- the rows of these parts
abbrev pub rows_of : Counts × ℕ → List Desired × ℕ → List Actual × ℕ → List Task × ℕ → List CellRow × ℕ
    → List DomainRow × ℕ → Rows
rows_of c d a t r m = record { desired = d.0; actual = a.0; tasks = t.0; cells = r.0; domains = m.0; next = c.0.0 }

-- what is read behind each part, where something is done last with the rows and the place behind them
module _ {Z : Type 0} (version : ℕ) (bytes : List ℕ) (last : Rows → ℕ → Result Z CodecFault) where
  abbrev pub behind_cells : Counts × ℕ → List Desired × ℕ → List Actual × ℕ → List Task × ℕ → List CellRow × ℕ
      → Result Z CodecFault
  behind_cells c d a t r = domains_at version c.0.0 c.0.1.1.1.1 bytes r.1 >>= λ m. last (rows_of c d a t r m) m.1

  abbrev pub behind_tasks : Counts × ℕ → List Desired × ℕ → List Actual × ℕ → List Task × ℕ → Result Z CodecFault
  behind_tasks c d a t = cells_at c.0.0 c.0.1.1.1.0 bytes t.1 >>= λ r. behind_cells c d a t r

  abbrev pub behind_actual : Counts × ℕ → List Desired × ℕ → List Actual × ℕ → Result Z CodecFault
  behind_actual c d a = tasks_at c.0.0 c.0.1.1.0 bytes a.1 >>= λ t. behind_tasks c d a t

  abbrev pub behind_desired : Counts × ℕ → List Desired × ℕ → Result Z CodecFault
  behind_desired c d = actual_at version c.0.0 c.0.1.0.1 bytes d.1 >>= λ a. behind_actual c d a

  abbrev pub behind_counts : Counts × ℕ → Result Z CodecFault
  behind_counts c = desired_at c.0.0 c.0.1.0.0 bytes c.1 >>= λ d. behind_desired c d

  abbrev pub parts_read : Result Z CodecFault
  parts_read = counts_at version bytes >>= λ c. behind_counts c

-- the parts that stand in front, their rows, and the place behind them
pub record Parts (version : ℕ) (bytes : List ℕ) (rows : Rows) (after : ℕ) : Type 0 where
  pub c : Counts × ℕ
  pub d : List Desired × ℕ
  pub a : List Actual × ℕ
  pub t : List Task × ℕ
  pub r : List CellRow × ℕ
  pub m : List DomainRow × ℕ
  pub counts_are : counts_at version bytes ≡ Ok c
  pub desired_are : desired_at c.0.0 c.0.1.0.0 bytes c.1 ≡ Ok d
  pub actual_are : actual_at version c.0.0 c.0.1.0.1 bytes d.1 ≡ Ok a
  pub tasks_are : tasks_at c.0.0 c.0.1.1.0 bytes a.1 ≡ Ok t
  pub cells_are : cells_at c.0.0 c.0.1.1.1.0 bytes t.1 ≡ Ok r
  pub domains_are : domains_at version c.0.0 c.0.1.1.1.1 bytes r.1 ≡ Ok m
  pub rows_are : rows_of c d a t r m ≡ rows
  pub after_is : m.1 ≡ after

-- what is done last is done with their rows
pub parts_last : {Z : Type 0} (version : ℕ) (bytes : List ℕ) (last : Rows → ℕ → Result Z CodecFault) (rows : Rows)
    (after : ℕ) → Parts version bytes rows after → parts_read version bytes last ≡ last rows after
parts_last version bytes last rows after p =
    bind_is (counts_at version bytes) p.c (λ c. behind_counts version bytes last c) p.counts_are
    ∙ bind_is (desired_at p.c.0.0 p.c.0.1.0.0 bytes p.c.1) p.d
    (λ d. behind_desired version bytes last p.c d) p.desired_are
    ∙ bind_is (actual_at version p.c.0.0 p.c.0.1.0.1 bytes p.d.1) p.a
    (λ a. behind_actual version bytes last p.c p.d a) p.actual_are
    ∙ bind_is (tasks_at p.c.0.0 p.c.0.1.1.0 bytes p.a.1) p.t
    (λ t. behind_tasks version bytes last p.c p.d p.a t) p.tasks_are
    ∙ bind_is (cells_at p.c.0.0 p.c.0.1.1.1.0 bytes p.t.1) p.r
    (λ r. behind_cells version bytes last p.c p.d p.a p.t r) p.cells_are
    ∙ bind_is (domains_at version p.c.0.0 p.c.0.1.1.1.1 bytes p.r.1) p.m
    (λ m. last (rows_of p.c p.d p.a p.t p.r m) m.1) p.domains_are
    ∙ ap (λ (w : Rows). last w p.m.1) p.rows_are
    ∙ ap (λ (n : ℕ). last rows n) p.after_is

-- other parts don't stand there
pub parts_one : (version : ℕ) (bytes : List ℕ) (rows more : Rows) (after behind : ℕ) → Parts version bytes rows after
    → Parts version bytes more behind → (rows ≡ more) × (after ≡ behind)
parts_one version bytes rows more after behind p q =
    let ends : Rows → ℕ → Result (Rows × ℕ) CodecFault = λ w n. Ok (w, n) in
    let pair = same_ok {X = Rows × ℕ} (rows, after) (more, behind)
    (sym (parts_last version bytes ends rows after p) ∙ parts_last version bytes ends more behind q) in
    (ap (λ (x : Rows × ℕ). x.0) pair, ap (λ (x : Rows × ℕ). x.1) pair)

ended_found : (bytes : List ℕ) (rows last : Rows) (at : ℕ) → head_ended bytes rows at ≡ Ok last
    → (length bytes ≤ at) × (rows ≡ last)
ended_found bytes rows last at e = by_test (nat_lt at (length bytes)) refl e
  where
    by_test : (b : Bool) → nat_lt at (length bytes) ≡ b → cond b (Err (Trailing at)) (Ok rows) ≡ Ok last
        → (length bytes ≤ at) × (rows ≡ last)
    by_test true h e = absurd cc
    by_test false h e = (grind (arith, nat_tests, h), same_ok {X = Rows} rows last e)

-- the parts of a head that was read, with nothing behind them
pub parts_found : (version : ℕ) (bytes : List ℕ) (rows : Rows) → head_reading version bytes ≡ Ok rows
    → (after : ℕ) × Parts version bytes rows after × (length bytes ≤ after)
unfolding head_reading
parts_found version bytes rows e =
    let last : Rows → ℕ → Result Rows CodecFault = λ w n. head_ended bytes w n in
    let c = bind_ok (counts_at version bytes) (λ x. behind_counts version bytes last x) rows e in
    let d = bind_ok (desired_at c.0.0.0 c.0.0.1.0.0 bytes c.0.1)
    (λ x. behind_desired version bytes last c.0 x) rows c.2 in
    let a = bind_ok (actual_at version c.0.0.0 c.0.0.1.0.1 bytes d.0.1)
    (λ x. behind_actual version bytes last c.0 d.0 x) rows d.2 in
    let t = bind_ok (tasks_at c.0.0.0 c.0.0.1.1.0 bytes a.0.1)
    (λ x. behind_tasks version bytes last c.0 d.0 a.0 x) rows a.2 in
    let r = bind_ok (cells_at c.0.0.0 c.0.0.1.1.1.0 bytes t.0.1)
    (λ x. behind_cells version bytes last c.0 d.0 a.0 t.0 x) rows t.2 in
    let m = bind_ok (domains_at version c.0.0.0 c.0.0.1.1.1.1 bytes r.0.1)
    (λ x. last (rows_of c.0 d.0 a.0 t.0 r.0 x) x.1) rows r.2 in
    let end = ended_found bytes (rows_of c.0 d.0 a.0 t.0 r.0 m.0) rows m.0.1 m.2 in
    let parts : Parts version bytes rows m.0.1 = record {
      c = c.0;
      d = d.0;
      a = a.0;
      t = t.0;
      r = r.0;
      m = m.0;
      counts_are = c.1;
      desired_are = d.1;
      actual_are = a.1;
      tasks_are = t.1;
      cells_are = r.1;
      domains_are = m.1;
      rows_are = end.1;
      after_is = refl {a = m.0.1};
    } in
    (m.0.1, parts, end.0)

-- the counts that were kept are those that were read
pub kept_counts : (read : Result (Counts × ℕ) FieldFault) (c : Counts × ℕ) → counts_read read ≡ Ok c
    → (read ≡ Ok c) × (c.0.0 ≤ most_transitions)
kept_counts (Ok x) c e = by_test (nat_le x.0.0 most_transitions) refl e
  where
    by_test : (b : Bool) → nat_le x.0.0 most_transitions ≡ b → cond b (Ok x) (Err (BadField 0)) ≡ Ok c
        → (◌≡◌ {A = Result (Counts × ℕ) FieldFault} (Ok x) (Ok c)) × (c.0.0 ≤ most_transitions)
    by_test true h e =
        let same : x ≡ c = same_ok {X = Counts × ℕ} x c e in
        let le : x.0.0 ≤ most_transitions = grind (arith, nat_tests, h) in
        (ap (λ (y : Counts × ℕ). Ok y) same, subst (λ (y : Counts × ℕ). y.0.0 ≤ most_transitions) same le)
    by_test false h e = absurd cc
kept_counts (Err fault) c e = absurd cc
