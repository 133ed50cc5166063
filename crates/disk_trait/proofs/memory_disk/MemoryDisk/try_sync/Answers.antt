use Rattle.std.proofs.Common.{is_ok, ◌∙◌, ap}
use Rattle.disk_trait.specs.Past.{Past}
use Rattle.disk_trait.specs.Steps.{Synced}
use Rattle.disk_trait.proofs.MoveLemmas.{tried_changes}
use Rattle.disk_trait.proofs.memory_disk.MemoryDisk.try_sync.Goals as goal

pub returns-clause-does : goal.returns-clause-does
returns-clause-does c =
    let disk = c.args.self.now in
    tried_changes disk.meter.clock _ c.args.area (is_ok c.end.result)
    (is_ok c.sync.result) Synced disk.areas c.sync.new.self _ c.sync.ensures
    (c.end.ensures.ok ∙ c.is_ok-found.ensures.value) c.end.ensures.areas
    (c.tick-ticked.ensures.time.goes c.requires)

pub returns-clause-calls : goal.returns-clause-calls
returns-clause-calls c = ap (λ (p : Past). p.clock) c.end.ensures.areas ∙ c.tick-ticked.ensures.time.goes c.requires
