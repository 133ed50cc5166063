use Rattle.std.proofs.Common.{is_ok}
use Rattle.disk_trait.specs.Steps.{Synced}
use Rattle.file_calls.specs.Made.{syncs}
use Rattle.file_calls.proofs.SyncLemmas.{syncs_work, syncs_spare}
use Rattle.file_calls.proofs.DiskLemmas.{timed_on, change_goes}
use Rattle.file_calls.proofs.file_disk.FileDiskDisk.sync.Goals as goal

pub invariant_of-self-2 : goal.invariant_of-self-2
invariant_of-self-2 g c = record {
  timed = timed_on (syncs c.args.area) _ _ _ c.begin.ensures c.sync_whole-answer.ensures.adds _ _ _ c.tick.result
      (syncs_work c.args.area) c.tick.ensures.time c.if-not-tick.false c.counted.ensures.clock c.args.self.now.timed;
  named = c.sync_whole-answer.ensures.named;
}

pub returns-clause-does : goal.returns-clause-does
returns-clause-does g c =
    change_goes (syncs c.args.area) _ _ _ c.begin.ensures c.sync_whole-answer.ensures.adds g.C.Calls.first c.args.area
    Synced (is_ok c.counted.result) (is_ok c.sync_whole-answer.result)
    (syncs_work c.args.area) (syncs_spare c.args.area) c.counted.ensures.ok (λ honest. c.sync_whole-answer.ensures.here)
