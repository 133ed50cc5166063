use Rattle.std.proofs.Common.{ℕ, List, subst}
use Rattle.program_ends.proofs.Public.{bytes_as, unread_as}
use Rattle.scenario_reader.specs.Accepted.{script_of}
use Rattle.scenario_reader.specs.Faults.{GivesReading}
use Rattle.pair_top.proofs.reading.read_scenario.Goals as goal

pub returns-in-Ok-clause-reads : goal.returns-in-Ok-clause-reads
returns-in-Ok-clause-reads g c =
    rw c.or_ending.ensures
    (bytes_as script_of _ _ c.in-Ok.bytes.items c.in-Ok.ensures.takes c.read_script.result
    (subst (λ (b : List ℕ). GivesReading c.read_script.result (script_of b)) c.deref.ensures.value
    c.read_script.ensures.exact))

pub returns-in-Err-clause-reads : goal.returns-in-Err-clause-reads
returns-in-Err-clause-reads g c = unread_as script_of _ _ c.in-Err.ending c.in-Err.ensures.takes
