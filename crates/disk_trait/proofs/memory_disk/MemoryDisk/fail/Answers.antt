use Rattle.std.proofs.Common.{ℕ, sym, subst, arith}
use Rattle.disk_trait.specs.Steps.{ChangesNothing}
use Rattle.disk_trait.specs.MemoryAreas.{past_of}
use Rattle.disk_trait.proofs.MoveLemmas.{numbered_upto, ticked_later, ticked_looks}
use Rattle.disk_trait.proofs.memory_disk.MemoryDisk.fail.Goals as goal

pub invariant_of-self : goal.invariant_of-self
invariant_of-self c =
    let disk = c.args.self.now in
    record {
      numbered = numbered_upto disk.meter.clock _ disk.areas
          (omega (arith, ticked_later c.tick-ticked.result _ _ c.tick-ticked.ensures.time, c.fail.ensures.clock))
          disk.numbered;
    }

pub returns-clause-does : goal.returns-clause-does
returns-clause-does c =
    let disk = c.args.self.now in
    subst (λ (k : ℕ). ChangesNothing (past_of disk.areas disk.meter.clock) (past_of disk.areas k))
    (sym c.fail.ensures.clock)
    (ticked_looks c.tick-ticked.result _ _ disk.areas c.tick-ticked.ensures.time disk.numbered)
