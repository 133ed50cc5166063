use Rattle.std.proofs.Common.{is_ok, refl}
use Rattle.disk_trait.specs.MemoryPast.{Tore}
use Rattle.disk_trait.proofs.MoveLemmas.{moves_a, moves_b}
use Rattle.disk_trait.proofs.areas.Areas.tear.Goals as goal

pub returns-in-A : goal.returns-in-A
returns-in-A c = moves_a c.args.clock c.args.area (Tore (is_ok c.tear.result) c.args.from c.args.len) c.args.self.now _
    c.in-A.is c.requires.numbered refl c.tear.ensures

pub returns-in-B : goal.returns-in-B
returns-in-B c = moves_b c.args.clock c.args.area (Tore (is_ok c.tear-in-B.result) c.args.from c.args.len)
    c.args.self.now _ c.in-B.is c.requires.numbered refl c.tear-in-B.ensures
