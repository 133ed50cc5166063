use Rattle.std.proofs.Common.{ap, refl, subst, List, ℕ, Some}
use Rattle.byte_ports.specs.Memory.{sink_bytes}
use Rattle.large_runs.specs.Large.{TextEnds}
use Rattle.large_runs.proofs.Texts.{memory_text_ends}
use Rattle.large_runs.proofs.large.run_text.Goals as goal

pub returns : goal.returns
returns g c =
    let laws = c.played_runs_are_faithful.ensures in
    let e = c.run-ended.result.0 in
    let bytes = sink_bytes c.run-ended.new.sink in
    subst (λ (text : List ℕ). TextEnds text e.ending e bytes) c.new-source.ensures.left
    (memory_text_ends _ _ _ _ _ e.ending c.run-ended.ensures.ends laws.faithful laws.base _ refl tt c.requires.board
    bytes (ap Some c.requires.empty) refl)
