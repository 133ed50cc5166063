use Rattle.std.proofs.Common.{sym, ◌∙◌, ap}
use Rattle.disk_trait.specs.declared.memory_area.MemoryArea.{MemoryArea}
use Rattle.disk_trait.proofs.MoveLemmas.{reads_part}
use Rattle.disk_trait.proofs.memory_disk.MemoryDisk.bytes.Goals as goal

pub returns : goal.returns
returns c =
    let disk = c.args.self.now in
    c.as_slice.ensures.value ∙ ap (λ (m : MemoryArea). m.bytes.items) c.part.ensures ∙ sym
    (reads_part disk.meter.clock disk.areas c.args.area disk.numbered)
