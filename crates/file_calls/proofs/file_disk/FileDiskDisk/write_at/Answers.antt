use Rattle.std.proofs.Common.{is_ok}
use Rattle.disk_trait.specs.Steps.{Wrote}
use Rattle.file_calls.specs.Made.{writes}
use Rattle.file_calls.proofs.WriteLemmas.{writes_work, writes_spare}
use Rattle.file_calls.proofs.DiskLemmas.{timed_on, named_on, change_goes, place_begun}
use Rattle.file_calls.proofs.file_disk.FileDiskDisk.write_at.Goals as goal

pub write_whole-answer-requires : goal.write_whole-answer-requires
write_whole-answer-requires g c = place_begun g.C.Calls.first c.args.area c.args.at _ _ c.begin.ensures c.requires

pub invariant_of-self-2 : goal.invariant_of-self-2
invariant_of-self-2 g c = record {
  timed = timed_on (writes c.args.area) _ _ _ c.begin.ensures c.write_whole-answer.ensures.adds _ _ _ c.tick.result
      (writes_work c.args.area) c.tick.ensures.time c.if-not-tick.false c.counted.ensures.clock c.args.self.now.timed;
  named = λ is area. named_on (writes c.args.area) _ _ _ c.begin.ensures c.write_whole-answer.ensures.adds area
      (c.args.self.now.named is area);
}

pub returns-clause-does : goal.returns-clause-does
returns-clause-does g c =
    change_goes (writes c.args.area) _ _ _ c.begin.ensures c.write_whole-answer.ensures.adds g.C.Calls.first c.args.area
    (λ ok. Wrote ok c.args.at c.args.bytes.now) (is_ok c.counted.result) (is_ok c.write_whole-answer.result)
    (writes_work c.args.area) (writes_spare c.args.area) c.counted.ensures.ok c.write_whole-answer.ensures.here
