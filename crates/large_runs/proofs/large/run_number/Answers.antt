use Rattle.std.proofs.Common.{subst, List, ℕ}
use Rattle.byte_ports.specs.Memory.{sink_bytes}
use Rattle.large_runs.specs.Large.{TextEnds}
use Rattle.large_runs.proofs.large.run_number.Goals as goal

pub returns-in-Ok-prepared : goal.returns-in-Ok-prepared
returns-in-Ok-prepared g c =
    let e = c.run_text.result in
    subst (λ (text : List ℕ). TextEnds text e.ending e (sink_bytes c.run_text.new.sink)) c.in-Ok.ensures
    c.run_text.ensures
