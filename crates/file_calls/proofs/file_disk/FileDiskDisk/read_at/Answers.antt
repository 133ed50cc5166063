use Rattle.file_calls.specs.Made.{reads}
use Rattle.file_calls.proofs.ReadLemmas.{reads_work, reads_spare}
use Rattle.file_calls.proofs.DiskLemmas.{timed_on, named_on, look_goes, read_told_all}
use Rattle.file_calls.proofs.file_disk.FileDiskDisk.read_at.Goals as goal

pub invariant_of-self-2 : goal.invariant_of-self-2
invariant_of-self-2 g c = record {
  timed = timed_on (reads c.args.area) _ _ _ c.begin.ensures c.read_whole-answer.ensures.adds _ _ _ c.tick.result
      (reads_work c.args.area) c.tick.ensures.time c.if-not-tick.false c.counted.ensures.clock c.args.self.now.timed;
  named = λ is area. named_on (reads c.args.area) _ _ _ c.begin.ensures c.read_whole-answer.ensures.adds area
      (c.args.self.now.named is area);
}

pub returns-clause-bytes : goal.returns-clause-bytes
returns-clause-bytes g c =
    read_told_all c.counted.result c.read_whole-answer.result g.C.Calls.first c.args.area c.args.at c.args.room.now
    c.read_whole-answer.new.room _ _ c.counted.ensures.ok c.counted.ensures.same c.read_whole-answer.ensures.adds
    c.read_whole-answer.ensures.bytes

pub returns-clause-does : goal.returns-clause-does
returns-clause-does g c =
    look_goes (reads c.args.area) _ _ _ c.begin.ensures c.read_whole-answer.ensures.adds g.C.Calls.first
    (reads_work c.args.area) (reads_spare c.args.area)
