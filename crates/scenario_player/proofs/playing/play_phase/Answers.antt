use Rattle.std.proofs.Common.{rules}
use Rattle.scenario_player.specs.Tellings.{IsPhaseTold}
use Rattle.scenario_player.proofs.PhaseTold.{phase_doubts, phase_ends, place_within, prints_by}
use Rattle.scenario_player.proofs.playing.play_phase.Goals as goal

pub returns-then-not-written-clause-ends : goal.returns-then-not-written-clause-ends
returns-then-not-written-clause-ends g c =
    let told : IsPhaseTold g.D.Disk.told g.T.Teller.wording c.args.script.now c.args.phase.now c.args.actors.now
    c.run_and_tell-board.new.actors c.args.board
    c.run_and_tell-board.result.0 c.args.kept.now c.run_and_tell-board.new.kept c.in-Ok.text.items = search rules in
    record {
      text = c.in-Ok.text.items;
      is_told = told;
      counted = search rules;
      prints = prints_by c.written.result _ c.deref.result.now c.in-Ok.text.items _ _ _ _ c.written.ensures.cause
          c.written.ensures.front c.written.ensures.all c.if-not-written.true c.deref.ensures.value;
    }

pub slice_bounds-doubts_in-count : goal.slice_bounds-doubts_in-count
slice_bounds-doubts_in-count g c =
    let told : IsPhaseTold g.D.Disk.told g.T.Teller.wording c.args.script.now c.args.phase.now c.args.actors.now
    c.run_and_tell-board.new.actors c.args.board
    c.run_and_tell-board.result.0 c.args.kept.now c.run_and_tell-board.new.kept c.in-Ok.text.items = search rules in
    place_within g.D.Disk.told g.T.Teller.wording c.args.script.now c.args.phase.now c.args.actors.now
    c.run_and_tell-board.new.actors c.args.board
    c.run_and_tell-board.result.0 c.args.kept.now c.run_and_tell-board.new.kept c.in-Ok.text.items told
    c.place-from.result c.log.result.now
    c.place-from.ensures c.log.ensures

pub slice_bounds-doubts_in-start : goal.slice_bounds-doubts_in-start
slice_bounds-doubts_in-start g c =
    let told : IsPhaseTold g.D.Disk.told g.T.Teller.wording c.args.script.now c.args.phase.now c.args.actors.now
    c.run_and_tell-board.new.actors c.args.board
    c.run_and_tell-board.result.0 c.args.kept.now c.run_and_tell-board.new.kept c.in-Ok.text.items = search rules in
    place_within g.D.Disk.told g.T.Teller.wording c.args.script.now c.args.phase.now c.args.actors.now
    c.run_and_tell-board.new.actors c.args.board
    c.run_and_tell-board.result.0 c.args.kept.now c.run_and_tell-board.new.kept c.in-Ok.text.items told
    c.place-from.result c.log.result.now
    c.place-from.ensures c.log.ensures

pub returns-clause-ends : goal.returns-clause-ends
returns-clause-ends g c =
    let p = c.run_and_tell-board.new in
    let left = c.run_and_tell-board.result.0 in
    let script = c.args.script.now in
    let phase = c.args.phase.now in
    let text = c.in-Ok.text.items in
    let told : IsPhaseTold g.D.Disk.told g.T.Teller.wording script phase c.args.actors.now p.actors c.args.board left
    c.args.kept.now p.kept text = search rules in
    phase_ends g.D.Disk.told g.T.Teller.wording script phase c.args.actors.now p.actors c.args.board left
    c.args.kept.now p.kept
    (g.K.Sink.held c.args.sink.now) (g.K.Sink.held c.written.new.sink) (g.K.Sink.faults c.args.sink.now)
    (g.K.Sink.faults c.written.new.sink)
    c.doubts_in.result c.ending_by-ending.result
    (phase_doubts g.D.Disk.told g.T.Teller.wording script phase c.args.actors.now p.actors c.args.board left
    c.args.kept.now p.kept text
    told c.place-from.result c.log.result.now c.place-from.ensures c.log.ensures c.doubts_in.result c.doubts_in.ensures)
    c.ending_by-ending.ensures
    (record {
      text = text;
      is_told = told;
      counted = search rules;
      prints = prints_by c.written.result _ c.deref.result.now text _ _ _ _ c.written.ensures.cause
          c.written.ensures.front c.written.ensures.all c.if-not-written.false c.deref.ensures.value;
    })
