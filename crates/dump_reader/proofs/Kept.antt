-- A dump that gets one line more keeps what a dump keeps, but for what its questions name.
use Rattle.std.proofs.Common.{◌≡◌, ℕ, ◌+◌, ◌≤◌, Bool, true, false, ◌||◌, ◌&&◌, nat_le, nat_lt, if◌then◌else◌, List, [], ◌∷◌, ◌++◌, length, map, sum_by, Result, Ok, Err, IfOk, refl, sym, subst, arith}
use Rattle.std.specs.List.{All, list_any}
use Rattle.std.proofs.lemmas.List.Elements.{All-nil, All-push}
use Rattle.std.proofs.lemmas.List.Sums.{sum_by_push}
use Rattle.dump_lines.specs.Facts.{IsLine, IsQuestion}
use Rattle.dump_lines.specs.declared.cell_state.CellState.{CellState}
use Rattle.dump_lines.specs.declared.cell_state.Place.{Place}
use Rattle.dump_lines.specs.declared.dump_line.DumpLine.{DumpLine}
use Rattle.dump_lines.specs.declared.dump_line.DumpLine.TheVariants.{Asks, State, Listed, Task, Desired, Actual, Domain}
use Rattle.dump_lines.specs.declared.question.Question.{Question}
use Rattle.dump_lines.specs.declared.rows.ActualRow.{ActualRow}
use Rattle.dump_lines.specs.declared.rows.DesiredRow.{DesiredRow}
use Rattle.dump_lines.specs.declared.rows.TaskRow.{TaskRow}
use Rattle.dump_reader.specs.Accepted.{no_dump}
use Rattle.dump_reader.specs.Facts.{AllDiffer, IsCellState, IsNamedOnce, IsWithinLimits}
use Rattle.dump_reader.specs.Faults.{◌>>=◌, FaultAt}
use Rattle.dump_reader.specs.Lines.{admit, asks_too_much, is_same_instance, is_same_name, is_too_much, names_twice, repeats, verdict_by, with_line, with_row}
use Rattle.dump_reader.specs.Names.{cells_listed, cells_of_states, instances_on, instances_told, processes_desired, rows_told, tasks_told, wanted_instances}
use Rattle.dump_reader.specs.declared.dump.Asked.{Asked}
use Rattle.dump_reader.specs.declared.dump.Dump.{Dump}
use Rattle.dump_reader.proofs.Differing.{differ-all, differ-named, differ-none, few-push, first_false, same-instance, same-name, second_false, within-limit}

-- a question is about something, and asks for no more than it may
pub record IsAsked (question : Question) : Type 0 where
  pub something : IsQuestion question
  pub modest : asks_too_much question ≡ false

-- what a dump keeps whose questions weren't looked at beside it
pub record IsKept (dump : Dump) : Type 0 where
  pub cells : All IsCellState dump.states
  pub once : IsNamedOnce dump
  pub limits : IsWithinLimits dump
  pub ordinary : All (λ r. r.ordinary ≡ true) dump.actual
  pub asked : All (λ a. IsAsked a.question) dump.questions

kept-asks : (dump : Dump) (n : ℕ) (q : Question) → IsQuestion q → is_too_much dump (Asks q) ≡ false → IsKept dump
    → IsKept (with_line dump n (Asks q))
kept-asks dump n q is few kept =
    let asked : IsAsked q = record {
      something = is;
      modest =
          second_false (nat_le 1000 (length dump.questions)) (asks_too_much q) few;
    } in
    let questions = few-push 1000 dump.questions (record { line = n; question = q })
    (first_false (nat_le 1000 (length dump.questions)) (asks_too_much q) few) in
    record {
      cells = kept.cells;
      once = record {
        states = kept.once.states;
        listed = kept.once.listed;
        tasks = kept.once.tasks;
        desired =
            kept.once.desired;
        actual = kept.once.actual;
      };
      limits = record {
        states = kept.limits.states;
        listed = kept.limits.listed;
        tasks = kept.limits.tasks;
        desired = kept.limits.desired;
        wanted = kept.limits.wanted;
        actual = kept.limits.actual;
        told = kept.limits.told;
        questions = questions;
      };
      ordinary = kept.ordinary;
      asked = All-push (λ a. IsAsked a.question) dump.questions (record { line = n; question = q }) kept.asked asked;
    }

kept-state : (dump : Dump) (n : ℕ) (s : CellState) → IsLine (State s) → names_twice dump (State s) ≡ false
    → is_too_much dump (State s) ≡ false → IsKept dump → IsKept (with_line dump n (State s))
kept-state dump n s is new few kept =
    let known = list_any (is_same_name s.place.cell) (cells_of_states dump) in
    let repeat = repeats is_same_instance [] (instances_on s) in
    let full = nat_le 1000 (length dump.states) in
    let much = nat_lt 250000 (instances_told dump + length s.instances) in
    let cell : IsCellState s = record {
      amounts = is;
      instances =
          differ-all is_same_instance same-instance [] (instances_on s) (second_false known repeat new) differ-none;
    } in
    let told = sum_by_push (λ s. length s.instances) dump.states s in
    let most = within-limit 250000 (instances_told dump + length s.instances) (second_false full much few) in
    record {
      cells = All-push IsCellState dump.states s kept.cells cell;
      once = record {
        states = differ-named is_same_name same-name (λ s. s.place.cell) dump.states s
            (first_false known repeat new) kept.once.states;
        listed = kept.once.listed;
        tasks = kept.once.tasks;
        desired = kept.once.desired;
        actual = kept.once.actual;
      };
      limits = record {
        states = few-push 1000 dump.states s (first_false full much few);
        listed = kept.limits.listed;
        tasks = kept.limits.tasks;
        desired = kept.limits.desired;
        wanted = kept.limits.wanted;
        actual = kept.limits.actual;
        told = subst (λ m. m ≤ 250000) (sym told) most;
        questions = kept.limits.questions;
      };
      ordinary = kept.ordinary;
      asked = kept.asked;
    }

kept-listed : (dump : Dump) (n : ℕ) (p : Place) → names_twice dump (Listed p) ≡ false
    → is_too_much dump (Listed p) ≡ false → IsKept dump → IsKept (with_line dump n (Listed p))
kept-listed dump n p new few kept = record {
  cells = kept.cells;
  once = record {
    states = kept.once.states;
    listed = differ-named is_same_name same-name (λ p. p.cell) dump.listed p new kept.once.listed;
    tasks = kept.once.tasks;
    desired = kept.once.desired;
    actual = kept.once.actual;
  };
  limits = record {
    states = kept.limits.states;
    listed = few-push 1000 dump.listed p few;
    tasks = kept.limits.tasks;
    desired = kept.limits.desired;
    wanted = kept.limits.wanted;
    actual = kept.limits.actual;
    told = kept.limits.told;
    questions = kept.limits.questions;
  };
  ordinary = kept.ordinary;
  asked = kept.asked;
}

kept-task : (dump : Dump) (n : ℕ) (t : TaskRow) → names_twice dump (Task t) ≡ false → is_too_much dump (Task t) ≡ false
    → IsKept dump → IsKept (with_line dump n (Task t))
kept-task dump n t new few kept = record {
  cells = kept.cells;
  once = record {
    states = kept.once.states;
    listed = kept.once.listed;
    tasks = differ-named is_same_name same-name (λ t. t.task) dump.tasks t new kept.once.tasks;
    desired = kept.once.desired;
    actual = kept.once.actual;
  };
  limits = record {
    states = kept.limits.states;
    listed = kept.limits.listed;
    tasks = few-push 50000 dump.tasks t few;
    desired = kept.limits.desired;
    wanted = kept.limits.wanted;
    actual = kept.limits.actual;
    told = kept.limits.told;
    questions = kept.limits.questions;
  };
  ordinary = kept.ordinary;
  asked = kept.asked;
}

kept-desired : (dump : Dump) (n : ℕ) (w : DesiredRow) → names_twice dump (Desired w) ≡ false
    → is_too_much dump (Desired w) ≡ false → IsKept dump → IsKept (with_line dump n (Desired w))
kept-desired dump n w new few kept =
    let full = nat_le 100000 (length dump.desired) in
    let much = nat_lt 250000 (wanted_instances dump + w.instances) in
    let wanted = sum_by_push (λ d. d.instances) dump.desired w in
    let most = within-limit 250000 (wanted_instances dump + w.instances) (second_false full much few) in
    record {
      cells = kept.cells;
      once = record {
        states = kept.once.states;
        listed = kept.once.listed;
        tasks = kept.once.tasks;
        desired = differ-named is_same_name same-name (λ d. d.process) dump.desired w new kept.once.desired;
        actual = kept.once.actual;
      };
      limits = record {
        states = kept.limits.states;
        listed = kept.limits.listed;
        tasks = kept.limits.tasks;
        desired = few-push 100000 dump.desired w (first_false full much few);
        wanted = subst (λ m. m ≤ 250000) (sym wanted) most;
        actual = kept.limits.actual;
        told = kept.limits.told;
        questions = kept.limits.questions;
      };
      ordinary = kept.ordinary;
      asked = kept.asked;
    }

-- rows with one more, where it is ordinary
kept-rows : (b : Bool) (rows : List ActualRow) (row : ActualRow) → row.ordinary ≡ b
    → (b && list_any (is_same_instance row.instance) (map (λ r. r.instance) rows)) ≡ false
    → (b && nat_le 250000 (length rows)) ≡ false → AllDiffer (map (λ r. r.instance) rows) → length rows ≤ 250000
    → All (λ r. r.ordinary ≡ true) rows → AllDiffer (map (λ r. r.instance) (if b then rows ++ row ∷ [] else rows))
    × (length (if b then rows ++ row ∷ [] else rows) ≤ 250000)
    × All (λ r. r.ordinary ≡ true) (if b then rows ++ row ∷ [] else rows)
kept-rows true rows row is new few differ short all = (
  differ-named is_same_instance same-instance (λ r. r.instance) rows row new differ,
  few-push 250000 rows row few,
  All-push (λ r. r.ordinary ≡ true) rows row all is,
)
kept-rows false rows row is new few differ short all = (differ, short, all)

kept-actual : (dump : Dump) (n : ℕ) (r : ActualRow) → names_twice dump (Actual r) ≡ false
    → is_too_much dump (Actual r) ≡ false → IsKept dump → IsKept (with_line dump n (Actual r))
kept-actual dump n r new few kept =
    let rows = kept-rows r.ordinary dump.actual r refl new few kept.once.actual kept.limits.actual kept.ordinary in
    record {
      cells = kept.cells;
      once = record {
        states = kept.once.states;
        listed = kept.once.listed;
        tasks = kept.once.tasks;
        desired =
            kept.once.desired;
        actual = rows.0;
      };
      limits = record {
        states = kept.limits.states;
        listed = kept.limits.listed;
        tasks = kept.limits.tasks;
        desired = kept.limits.desired;
        wanted = kept.limits.wanted;
        actual = rows.1;
        told = kept.limits.told;
        questions = kept.limits.questions;
      };
      ordinary = rows.2;
      asked = kept.asked;
    }

kept-domain : (dump : Dump) (n : ℕ) → IsKept dump → IsKept (with_line dump n Domain)
kept-domain dump n kept = record {
  cells = kept.cells;
  once = record {
    states = kept.once.states;
    listed = kept.once.listed;
    tasks = kept.once.tasks;
    desired =
        kept.once.desired;
    actual = kept.once.actual;
  };
  limits = record {
    states = kept.limits.states;
    listed = kept.limits.listed;
    tasks = kept.limits.tasks;
    desired = kept.limits.desired;
    wanted = kept.limits.wanted;
    actual = kept.limits.actual;
    told = kept.limits.told;
    questions = kept.limits.questions;
  };
  ordinary = kept.ordinary;
  asked = kept.asked;
}

kept-line : (dump : Dump) (n : ℕ) (line : DumpLine) → IsLine line → names_twice dump line ≡ false
    → is_too_much dump line ≡ false → IsKept dump → IsKept (with_line dump n line)
kept-line dump n (Asks q) is new few kept = kept-asks dump n q is few kept
kept-line dump n (State s) is new few kept = kept-state dump n s is new few kept
kept-line dump n (Listed p) is new few kept = kept-listed dump n p new few kept
kept-line dump n (Task t) is new few kept = kept-task dump n t new few kept
kept-line dump n (Desired w) is new few kept = kept-desired dump n w new few kept
kept-line dump n (Actual r) is new few kept = kept-actual dump n r new few kept
kept-line dump n Domain is new few kept = kept-domain dump n kept

by-verdict : (twice much : Bool) (n : ℕ) (dump : Dump) (P : Dump → Type 0) → (twice ≡ false → much ≡ false → P dump)
    → IfOk (verdict_by twice much n >>= λ fine. Ok dump) P
by-verdict true much n dump P known = tt
by-verdict false true n dump P known = tt
by-verdict false false n dump P known = known refl refl

-- a line that is admitted leaves what a dump keeps
pub admit-kept : (dump : Dump) (n : ℕ) (line : DumpLine) → IsLine line → IsKept dump → IfOk (admit dump n line) IsKept
admit-kept dump n line is kept =
    by-verdict (names_twice dump line) (is_too_much dump line) n (with_line dump n line) IsKept
    (λ new few. kept-line dump n line is new few kept)

-- a dump without lines keeps it
pub none-kept : IsKept no_dump
none-kept = record {
  cells = All-nil _;
  once = record {
    states = differ-none;
    listed = differ-none;
    tasks = differ-none;
    desired = differ-none;
    actual =
        differ-none;
  };
  limits = record {
    states = omega arith;
    listed = omega arith;
    tasks = omega arith;
    desired = omega arith;
    wanted = omega arith;
    actual = omega arith;
    told = omega arith;
    questions = omega arith;
  };
  ordinary = All-nil _;
  asked = All-nil _;
}
