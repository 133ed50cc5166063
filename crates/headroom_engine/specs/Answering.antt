-- What is put into the sink where there is a dump, and where there is none.
use Rattle.std.specs.Prelude.{◌≡◌, ◌⊎◌, ℕ, List, Option}
use Rattle.dump_reader.specs.Faults.{at}
use Rattle.forecast_records.specs.declared.verdict.Verdict.{Verdict}
use Rattle.forecast_records.specs.declared.verdict.Verdict.TheVariants.{Room, Unplaced, Short}
use Rattle.headroom_engine.specs.Ending.{constant_line, fault_line}
use Rattle.headroom_engine.specs.Ports.{Puts, PutsNothing, PutsPart, PutsWhole}
use Rattle.headroom_engine.specs.Telling.{verdict_status}
use Rattle.headroom_engine.specs.declared.ending.Ending.{Ending}
use Rattle.headroom_engine.specs.declared.ending.Ending.TheVariants as ending

-- how the program ends whose answers have this verdict and were written
abbrev pub ending_of : Verdict → Ending
ending_of Room = ending.Room
ending_of Unplaced = ending.NoRoom
ending_of Short = ending.NoRoom

-- answers with this verdict and this text were put into the sink, and it ended so
abbrev pub PutsAnswers : Ending → Verdict → List ℕ → Option (List ℕ) → Option (List ℕ) → ℕ → ℕ → Type 0
PutsAnswers ending.Room verdict text held held' faults faults' =
    (verdict_status verdict ≡ 0) × PutsWhole text held held' faults faults'
PutsAnswers ending.NoRoom verdict text held held' faults faults' =
    (verdict_status verdict ≡ 10) × PutsWhole text held held' faults faults'
PutsAnswers ending.Unwritten verdict text held held' faults faults' = PutsPart text held held' faults faults'
PutsAnswers ending.OutOfMemory verdict text held held' faults faults' = PutsNothing held held' faults faults'
PutsAnswers other verdict text held held' faults faults' = ⊥

-- where there was no dump for this cause its line was put into the sink, and it ended so: a line that tells a place
-- wants memory
abbrev pub PutsFault : Ending → Ending → Option (List ℕ) → Option (List ℕ) → ℕ → ℕ → Type 0
PutsFault (ending.Faulty fault line) how held held' faults faults' =
    ((how ≡ ending.Faulty fault line) × Puts (fault_line (at fault line)) held held' faults faults')
    ⊎ ((how ≡ ending.OutOfMemory) × PutsNothing held held' faults faults')
PutsFault ending.OutOfMemory how held held' faults faults' =
    (how ≡ ending.OutOfMemory) × PutsNothing held held' faults faults'
PutsFault other how held held' faults faults' = (how ≡ other) × Puts (constant_line other) held held' faults faults'
