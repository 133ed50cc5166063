-- What is kept beside a dump while it is read.
use Rattle.std.specs.Prelude.{◌≡◌, ℕ, ◌+◌, ◌≤◌, [], Result, Ok, Err}
use Rattle.indexmap.specs.IndexSet.{insert_all}
use Rattle.dump_reader.specs.Faults.{FaultAt, GivesDump}
use Rattle.dump_reader.specs.Lines.{is_same_name}
use Rattle.dump_reader.specs.Names.{cells_listed, cells_of_states, instances_told, processes_desired, rows_told, tasks_told, wanted_instances, zones_listed, zones_of_states}
use Rattle.dump_reader.specs.declared.dump.Dump.{Dump}
use Rattle.dump_reader.specs.declared.dump.LineCounts.{LineCounts}
use Rattle.dump_reader.specs.declared.fault.DumpError.{DumpError}
use Rattle.dump_reader.specs.declared.reader.Reading.{Reading}
use Rattle.dump_reader.specs.declared.seen.Seen.{Seen}

-- how many lines are counted
abbrev pub lines_counted : LineCounts → ℕ
lines_counted c = c.actual + c.cells + c.desired + c.domains + c.states + c.tasks

-- what was seen is what the dump has: the names that it names, and the sums, which are within the limits
pub record IsTracked (seen : Seen) (dump : Dump) : Type 0 where
  pub cells : seen.cells ≡ cells_of_states dump
  pub listed : seen.listed ≡ cells_listed dump
  pub zones : seen.zones ≡ insert_all is_same_name [] (zones_of_states dump)
  pub listed_zones : seen.listed_zones ≡ insert_all is_same_name [] (zones_listed dump)
  pub tasks : seen.tasks ≡ tasks_told dump
  pub processes : seen.processes ≡ processes_desired dump
  pub rows : seen.rows ≡ rows_told dump
  pub told : seen.told ≡ instances_told dump
  pub wanted : seen.wanted ≡ wanted_instances dump
  pub few_told : seen.told ≤ 250000
  pub few_wanted : seen.wanted ≤ 250000

-- an answer is a reading of this dump, or the fault and its line, unless memory ran out
abbrev pub GivesReading : Result Reading DumpError → Result Dump FaultAt → Type 0
GivesReading (Ok reading) next = next ≡ Ok reading.dump
GivesReading (Err error) next = GivesDump {X = Dump} (Err error) next

-- an answer to a step, and the dump that it left: that is the one that was to come, or the answer is the fault, unless
-- memory ran out
abbrev pub Leads : Result (Unit {0}) DumpError → Dump → Result Dump FaultAt → Type 0
Leads (Ok done) dump next = next ≡ Ok dump
Leads (Err error) dump next = GivesDump {X = Dump} (Err error) next
