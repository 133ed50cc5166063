use Rattle.file_calls.specs.Made.{measures}
use Rattle.file_calls.proofs.ReadLemmas.{measures_work, measures_spare}
use Rattle.file_calls.proofs.DiskLemmas.{look_goes, made_on, len_adds, len_refused}
use Rattle.file_calls.proofs.file_disk.FileDiskDisk.len.Goals as goal

pub returns-clause-does : goal.returns-clause-does
returns-clause-does g c =
    look_goes (measures c.args.area) _ _ _ c.begin.ensures
    (len_adds c.measure-answer.result c.args.area _ _ c.measure-answer.ensures) g.C.Calls.first
    (measures_work c.args.area) (measures_spare c.args.area)

pub returns-clause-made : goal.returns-clause-made
returns-clause-made g c =
    made_on (measures c.args.area) c.counted.result c.measure-answer.result _ _ c.tick.result _ _ _ c.tick.ensures.time
    c.if-not-tick.false c.counted.ensures.ok c.begin.ensures
    (len_adds c.measure-answer.result c.args.area _ _ c.measure-answer.ensures)
    (len_refused c.measure-answer.result c.args.area _ _ c.measure-answer.ensures)
