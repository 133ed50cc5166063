-- A fault goes through what would follow.
use Rattle.std.proofs.Common.{◌≡◌, Result, Ok, Err, ap}
use Rattle.dump_reader.specs.Faults.{◌>>=◌, FaultAt, GivesDump}
use Rattle.dump_reader.specs.declared.dump.Dump.{Dump}
use Rattle.dump_reader.specs.declared.fault.DumpError.{DumpError}
use Rattle.dump_reader.specs.declared.fault.DumpError.TheVariants.{Faulty, OutOfMemory}

pub goes_on : (error : DumpError) (r : Result (Unit {0}) FaultAt) (f : Unit {0} → Result Dump FaultAt)
    → GivesDump {X = Unit {0}} (Err error) r → GivesDump {X = Dump} (Err error) (r >>= f)
goes_on (Faulty fault line) r f h = ap (λ (x : Result (Unit {0}) FaultAt). x >>= f) h
goes_on OutOfMemory r f h = tt
