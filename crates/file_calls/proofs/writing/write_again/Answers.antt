use Rattle.std.proofs.Common.{◌∙◌}
use Rattle.file_calls.specs.Made.{writes}
use Rattle.file_calls.proofs.Records.{adds_then}
use Rattle.file_calls.proofs.WriteLemmas.{write_adds, write_here, ready_still, refused_same}
use Rattle.file_calls.proofs.writing.write_again.Goals as goal

pub write_once-requires-clause-ready : goal.write_once-requires-clause-ready
write_once-requires-clause-ready g c =
    ready_still g.C.Calls.first c.args.area c.args.at c.args.bytes.now _ _ c.loop.invariant.adds c.loop.invariant.same
    c.requires.ready

pub returns-in_default-clause-adds : goal.returns-in_default-clause-adds
returns-in_default-clause-adds g c =
    adds_then (writes c.args.area) _ _ _ c.loop.invariant.adds
    (write_adds c.write_once.result c.args.area c.args.at c.args.bytes.now _ _ c.write_once.ensures.noted)

pub returns-in_default-2-clause-adds : goal.returns-in_default-2-clause-adds
returns-in_default-2-clause-adds g c =
    adds_then (writes c.args.area) _ _ _ c.loop.invariant.adds
    (write_adds c.write_once.result c.args.area c.args.at c.args.bytes.now _ _ c.write_once.ensures.noted)

pub returns-in_default-2-clause-here : goal.returns-in_default-2-clause-here
returns-in_default-2-clause-here g c honest =
    write_here c.write_once.result g.C.Calls.first c.args.area c.args.at c.args.bytes.now
    (g.C.Calls.history c.args.calls.now) (g.C.Calls.history c.loop.calls) _ c.loop.invariant.same
    (ready_still g.C.Calls.first c.args.area c.args.at c.args.bytes.now _ _ c.loop.invariant.adds c.loop.invariant.same
    c.requires.ready) c.write_once.ensures.noted honest

pub loop-preserved : goal.loop-preserved
loop-preserved g c = record {
  adds = adds_then (writes c.args.area) _ _ _ c.loop.invariant.adds
      (write_adds c.write_once.result c.args.area c.args.at c.args.bytes.now _ _ c.write_once.ensures.noted);
  same = refused_same g.C.Calls.first c.args.area c.args.at _ _ c.in-Err-Interrupted.ensures.noted ∙
      c.loop.invariant.same;
}

pub write_once-requires-2-clause-ready : goal.write_once-requires-2-clause-ready
write_once-requires-2-clause-ready g c =
    ready_still g.C.Calls.first c.args.area c.args.at c.args.bytes.now _ _ c.loop.invariant.adds c.loop.invariant.same
    c.requires.ready

pub returns-clause-adds : goal.returns-clause-adds
returns-clause-adds g c =
    adds_then (writes c.args.area) _ _ _ c.loop.invariant.adds
    (write_adds c.write_once-2.result c.args.area c.args.at c.args.bytes.now _ _ c.write_once-2.ensures.noted)

pub returns-clause-here : goal.returns-clause-here
returns-clause-here g c honest =
    write_here c.write_once-2.result g.C.Calls.first c.args.area c.args.at c.args.bytes.now
    (g.C.Calls.history c.args.calls.now) (g.C.Calls.history c.loop.calls) _ c.loop.invariant.same
    (ready_still g.C.Calls.first c.args.area c.args.at c.args.bytes.now _ _ c.loop.invariant.adds c.loop.invariant.same
    c.requires.ready) c.write_once-2.ensures.noted honest
