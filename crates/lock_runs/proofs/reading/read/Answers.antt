use Rattle.std.proofs.Common.{ℕ, List, subst}
use Rattle.lock_lines.specs.Reading.{lock_lines_of}
use Rattle.program_ends.proofs.Public.{bytes_as, unread_as}
use Rattle.scenario_reader.specs.Faults.{GivesReading}
use Rattle.lock_runs.proofs.reading.read.Goals as goal

pub returns-in-Ok-clause-reads : goal.returns-in-Ok-clause-reads
returns-in-Ok-clause-reads g c =
    rw c.or_ending.ensures
    (bytes_as lock_lines_of _ _ c.in-Ok.bytes.items c.in-Ok.ensures.takes c.read_lock_lines.result
    (subst (λ (b : List ℕ). GivesReading c.read_lock_lines.result (lock_lines_of b)) c.deref.ensures.value
    c.read_lock_lines.ensures.exact))

pub returns-in-Err-clause-reads : goal.returns-in-Err-clause-reads
returns-in-Err-clause-reads g c = unread_as lock_lines_of _ _ c.in-Err.ending c.in-Err.ensures.takes
