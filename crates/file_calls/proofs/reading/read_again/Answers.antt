use Rattle.file_calls.specs.Made.{reads}
use Rattle.file_calls.proofs.Records.{adds_then}
use Rattle.file_calls.proofs.ReadLemmas.{read_adds, read_gives}
use Rattle.file_calls.proofs.reading.read_again.Goals as goal

pub returns-in_default-clause-adds : goal.returns-in_default-clause-adds
returns-in_default-clause-adds g c =
    adds_then (reads c.args.area) _ _ _ c.loop.invariant (read_adds c.read_some.result c.args.area c.args.at _ _ _
    c.read_some.ensures.noted)

pub returns-in_default-2-clause-adds : goal.returns-in_default-2-clause-adds
returns-in_default-2-clause-adds g c =
    adds_then (reads c.args.area) _ _ _ c.loop.invariant (read_adds c.read_some.result c.args.area c.args.at _ _ _
    c.read_some.ensures.noted)

pub returns-in_default-2-clause-bytes : goal.returns-in_default-2-clause-bytes
returns-in_default-2-clause-bytes g c =
    read_gives c.read_some.result g.C.Calls.first c.args.area c.args.at _ _ _ _ _ c.loop.invariant c.read_some.auto.room
    c.read_some.ensures.count c.read_some.ensures.noted

pub loop-preserved : goal.loop-preserved
loop-preserved g c =
    adds_then (reads c.args.area) _ _ _ c.loop.invariant (read_adds c.read_some.result c.args.area c.args.at _ _ _
    c.read_some.ensures.noted)

pub returns-clause-adds : goal.returns-clause-adds
returns-clause-adds g c =
    adds_then (reads c.args.area) _ _ _ c.loop.invariant (read_adds c.read_some-2.result c.args.area c.args.at _ _ _
    c.read_some-2.ensures.noted)

pub returns-clause-bytes : goal.returns-clause-bytes
returns-clause-bytes g c =
    read_gives c.read_some-2.result g.C.Calls.first c.args.area c.args.at _ _ _ _ _ c.loop.invariant
    c.read_some-2.auto.room c.read_some-2.ensures.count c.read_some-2.ensures.noted
