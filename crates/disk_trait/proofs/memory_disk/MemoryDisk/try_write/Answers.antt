use Rattle.std.proofs.Common.{◌≤◌, ℕ, Bool, List, length, is_ok, ◌∙◌, ap, subst}
use Rattle.disk_trait.specs.Past.{Past}
use Rattle.disk_trait.specs.Steps.{Wrote}
use Rattle.disk_trait.proofs.MoveLemmas.{tried_changes, reads_part}
use Rattle.disk_trait.proofs.memory_disk.MemoryDisk.try_write.Goals as goal

pub write-requires-clause-at : goal.write-requires-clause-at
write-requires-clause-at c =
    let disk = c.args.self.now in
    subst (λ (l : List ℕ). c.args.at ≤ length l) (reads_part disk.meter.clock disk.areas c.args.area disk.numbered)
    c.requires.at

pub returns-clause-does : goal.returns-clause-does
returns-clause-does c =
    let disk = c.args.self.now in
    tried_changes disk.meter.clock _ c.args.area (is_ok c.end.result) (is_ok c.write.result)
    (λ (ok : Bool). Wrote ok c.args.at c.args.bytes.now) disk.areas c.write.new.self _ c.write.ensures
    (c.end.ensures.ok ∙ c.is_ok-found.ensures.value) c.end.ensures.areas
    (c.tick-ticked.ensures.time.goes c.requires.room)

pub returns-clause-calls : goal.returns-clause-calls
returns-clause-calls c = ap (λ (p : Past). p.clock) c.end.ensures.areas ∙ c.tick-ticked.ensures.time.goes
    c.requires.room
