-- A line beside those before it: whether it may stand there, and what the dump is with it.
use Rattle.std.specs.Prelude.{ℕ, ◌+◌, List, [], ◌∷◌, ◌++◌, Bool, false, ◌&&◌, ◌||◌, nat_eq, nat_le, nat_lt, length, map, Result, Ok, Err, if◌then◌else◌}
use Rattle.std.specs.Cmp.Lexicographic.{pointwise}
use Rattle.std.specs.List.{list_any}
use Rattle.diego_names.specs.declared.key.Key.{Key}
use Rattle.dump_lines.specs.declared.dump_line.DumpLine.{DumpLine}
use Rattle.dump_lines.specs.declared.dump_line.DumpLine.TheVariants.{Asks, State, Listed, Task, Desired, Actual, Domain}
use Rattle.dump_lines.specs.declared.question.Question.{Question}
use Rattle.dump_lines.specs.declared.question.Question.TheVariants.{Show, Lose, LoseEach, LoseInTurn, Drain, Fit}
use Rattle.dump_lines.specs.declared.rows.ActualRow.{ActualRow}
use Rattle.dump_reader.specs.Faults.{◌>>=◌, FaultAt, at}
use Rattle.dump_reader.specs.Names.{cells_listed, cells_of_states, instances_on, instances_told, processes_desired, rows_told, tasks_told, wanted_instances}
use Rattle.dump_reader.specs.declared.dump.Dump.{Dump}
use Rattle.dump_reader.specs.declared.fault.DumpFault.{DumpFault}
use Rattle.dump_reader.specs.declared.fault.DumpFault.TheVariants.{Twice, TooMuch}

-- two names are one
abbrev pub is_same_name : List ℕ → List ℕ → Bool
is_same_name a b = pointwise nat_eq a b

-- two instances are one
abbrev pub is_same_instance : Key → Key → Bool
is_same_instance a b = pointwise nat_eq a.process b.process && nat_eq a.index b.index

-- one of these stands among those before it, of which these are the first
abbrev pub repeats : {X : Type 0} → (X → X → Bool) → List X → List X → Bool
repeats is_same before [] = false
repeats is_same before (x ∷ xs) = list_any (is_same x) before || repeats is_same (before ++ x ∷ []) xs

-- the line names what is there already: a cell by its state or as listed, a task, a process or an ordinary row; or it
-- names an instance on its cell that is there already
abbrev pub names_twice : Dump → DumpLine → Bool
names_twice dump (Asks question) = false
names_twice dump (State state) =
    list_any (is_same_name state.place.cell) (cells_of_states dump) || repeats is_same_instance [] (instances_on state)
names_twice dump (Listed place) = list_any (is_same_name place.cell) (cells_listed dump)
names_twice dump (Task task) = list_any (is_same_name task.task) (tasks_told dump)
names_twice dump (Desired desired) = list_any (is_same_name desired.process) (processes_desired dump)
names_twice dump (Actual row) = row.ordinary && list_any (is_same_instance row.instance) (rows_told dump)
names_twice dump Domain = false

-- a question asks for more than 50,000 instances
abbrev pub asks_too_much : Question → Bool
asks_too_much Show = false
asks_too_much (Lose cells zones) = false
asks_too_much (LoseEach of) = false
asks_too_much (LoseInTurn order at_least) = false
asks_too_much (Drain at_a_time cells) = false
asks_too_much (Fit process instances demand) = nat_lt 50000 instances

-- the line is the 1,001st question or asks too much, is the 1,001st state of a cell or the one with the 250,001st
-- instance on a cell, the 1,001st listed cell, the 50,001st task, the 100,001st process or the one with the 250,001st
-- wanted instance, or the 250,001st ordinary row
abbrev pub is_too_much : Dump → DumpLine → Bool
is_too_much dump (Asks question) = nat_le 1000 (length dump.questions) || asks_too_much question
is_too_much dump (State state) =
    nat_le 1000 (length dump.states) || nat_lt 250000 (instances_told dump + length state.instances)
is_too_much dump (Listed place) = nat_le 1000 (length dump.listed)
is_too_much dump (Task task) = nat_le 50000 (length dump.tasks)
is_too_much dump (Desired desired) =
    nat_le 100000 (length dump.desired) || nat_lt 250000 (wanted_instances dump + desired.instances)
is_too_much dump (Actual row) = row.ordinary && nat_le 250000 (length dump.actual)
is_too_much dump Domain = false

-- the rows with one more, if it is ordinary
abbrev pub with_row : List ActualRow → ActualRow → List ActualRow
with_row rows row = if row.ordinary then rows ++ row ∷ [] else rows

-- the dump with one more line, which has this number
abbrev pub with_line : Dump → ℕ → DumpLine → Dump
with_line dump n (Asks question) =
    record dump { questions = dump.questions ++ record { line = n; question = question } ∷ [] }
with_line dump n (State state) =
    record dump { counts = record dump.counts { states = dump.counts.states + 1 }; states = dump.states ++ state ∷ [] }
with_line dump n (Listed place) =
    record dump { counts = record dump.counts { cells = dump.counts.cells + 1 }; listed = dump.listed ++ place ∷ [] }
with_line dump n (Task task) =
    record dump { counts = record dump.counts { tasks = dump.counts.tasks + 1 }; tasks = dump.tasks ++ task ∷ [] }
with_line dump n (Desired desired) =
    record dump { counts = record dump.counts { desired = dump.counts.desired + 1 }; desired = dump.desired ++ desired ∷ [] }
with_line dump n (Actual row) =
    record dump { counts = record dump.counts { actual = dump.counts.actual + 1 }; actual = with_row dump.actual row }
with_line dump n Domain = record dump { counts = record dump.counts { domains = dump.counts.domains + 1 } }

-- what is wrong with a line that may name something twice, and by which there may be too much
abbrev pub verdict_by : Bool → Bool → ℕ → Result (Unit {0}) FaultAt
verdict_by twice much n = if twice then Err (at Twice n) else (if much then Err (at TooMuch n) else Ok tt)

-- the first fault that a line has beside those before it, if it has one
abbrev pub verdict : Dump → ℕ → DumpLine → Result (Unit {0}) FaultAt
verdict dump n line = verdict_by (names_twice dump line) (is_too_much dump line) n

-- the dump with one more line, or the first fault that the line has beside those before it
abbrev pub admit : Dump → ℕ → DumpLine → Result Dump FaultAt
admit dump n line = verdict dump n line >>= λ fine. Ok (with_line dump n line)
