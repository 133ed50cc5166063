use Rattle.disk_trait.proofs.MoveLemmas.{numbered_upto, ticked_later, ticked_looks}
use Rattle.disk_trait.proofs.memory_disk.MemoryDisk.pass.Goals as goal

pub invariant_of-self : goal.invariant_of-self
invariant_of-self c =
    let disk = c.args.self.now in
    record {
      numbered = numbered_upto disk.meter.clock _ disk.areas
          (ticked_later c.tick-ticked.result _ _ c.tick-ticked.ensures.time) disk.numbered;
    }

pub returns-clause-does : goal.returns-clause-does
returns-clause-does c =
    let disk = c.args.self.now in
    ticked_looks c.tick-ticked.result _ _ disk.areas c.tick-ticked.ensures.time disk.numbered
