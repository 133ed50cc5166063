use Rattle.std.proofs.Common.{is_ok, refl}
use Rattle.disk_trait.specs.Steps.{Synced}
use Rattle.disk_trait.proofs.MoveLemmas.{moves_a, moves_b}
use Rattle.disk_trait.proofs.areas.Areas.sync.Goals as goal

pub returns-in-A : goal.returns-in-A
returns-in-A c = moves_a c.args.clock c.args.area (Synced (is_ok c.sync.result)) c.args.self.now _ c.in-A.is
    c.requires.numbered refl c.sync.ensures

pub returns-in-B : goal.returns-in-B
returns-in-B c = moves_b c.args.clock c.args.area (Synced (is_ok c.sync-in-B.result)) c.args.self.now _ c.in-B.is
    c.requires.numbered refl c.sync-in-B.ensures
