use Rattle.std.proofs.Common.{◌≡◌, false, subst}
use Rattle.std.specs.Option.{ForSome}
use Rattle.disk_trait.specs.Past.{Image, Images}
use Rattle.bbs_journal.specs.Reading.{payloads_of}
use Rattle.bbs_journal.specs.View.{is_waiting}
use Rattle.payload_log.specs.Entries.{stored_in}
use Rattle.payload_log.specs.Kept.{KeptList}
use Rattle.payload_log.specs.Opened.{OpensBehind, opened_in}
use Rattle.payload_log.specs.View.{LogView}
use Rattle.payload_log.proofs.Adding.{calm_images}
use Rattle.payload_log.proofs.log.PayloadLog.holds.Goals as goal

pub returns-clause-kept : goal.returns-clause-kept
returns-clause-kept g c =
    subst (λ (v : LogView g.row.D.Denot g.row.X.Denot). ForSome (g.D.Disk.told v.disk)
    (KeptList g.X.Payload.spelling v.start v.log v.marks v.since)) c.self.view_is
    (λ p is. (c.self.invariant.holds p is).kept)

pub returns-clause-calm : goal.returns-clause-calm
returns-clause-calm g c =
    let b = c.self.inside in
    let told = g.D.Disk.told in
    let start = opened_in b.journal b.head.value.items (payloads_of b.frames.value.items) in
    subst (λ (v : LogView g.row.D.Denot g.row.X.Denot). v.waits ≡ false
    → ForSome (told v.disk) (λ p. (image : Image) → Images p image
    → OpensBehind v.start (stored_in g.X.Payload.spelling v.log) image)) c.self.view_is
    (calm_images g.X.Payload.spelling (told b.journal.disk)
    (told b.journal.disk) start b.log.items b.marks.items b.since b.journal.end
    (is_waiting b.journal.waiting) c.self.invariant.holds)
