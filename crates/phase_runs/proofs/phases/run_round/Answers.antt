use Rattle.std.proofs.Common.{List, Some, None, ◌∙◌, subst}
use Rattle.cell_rep.specs.declared.rep.CellRep.{CellRep}
use Rattle.converge_round.specs.Items.{HasItems}
use Rattle.board_port.specs.Went.{seen_of}
use Rattle.phase_runs.specs.Reps.{reps_of}
use Rattle.phase_runs.specs.Rounds.{RoundOf}
use Rattle.phase_runs.proofs.PutBack.{put_after}
use Rattle.phase_runs.proofs.RoundsAlone.{no_begin, tells_fault, was_cut, was_held}
use Rattle.phase_runs.proofs.phases.run_round.Goals as goal

pub returns-in-Err-clause-cut : goal.returns-in-Err-clause-cut
returns-in-Err-clause-cut g c = no_begin g.D.Disk.told c.args.now c.args.board.now c.args.line.now c.args.actors.now

pub returns-in-Ok-end-clause-ran : goal.returns-in-Ok-end-clause-ran
returns-in-Ok-end-clause-ran g c =
    let after = c.round_on-end.new.cells in
    let w = c.round_on-end.new.board in
    let back = put_after c.args.actors.now c.take_reps.new.actors c.put_reps.new.actors c.in-Ok.reps.items
    c.deref_mut.result.now after
    c.in-Ok.reps.len c.in-Ok.ensures.taken c.deref_mut.ensures.value c.in-Ok.reps.ok.0 c.round_on-end.ensures.cells
    c.put_reps.ensures in
    was_held g.D.Disk.told c.args.now c.args.board.now w c.round_on-end.ensures.alone c.args.line.now c.args.actors.now
    (subst (λ (l : List CellRep). HasItems 0 c.args.now l (seen_of 0 c.args.board.now) (seen_of 0 w))
    (c.deref_mut.ensures.value ∙ c.in-Ok.ensures.taken.0) c.round_on-end.ensures.items)
    c.put_reps.new.actors after back.0 back.1 (Some c.in-Ok-end.report)
    (subst (λ (l : List CellRep). RoundOf c.args.now c.args.line.now l after (seen_of 0 c.args.board.now)
    (seen_of 0 w) c.in-Ok-end.report)
    (c.deref_mut.ensures.value ∙ c.in-Ok.ensures.taken.0) c.in-Ok-end.ensures.account)

pub returns-in-Disk-clause-ran : goal.returns-in-Disk-clause-ran
returns-in-Disk-clause-ran g c =
    let after = c.round_on-end.new.cells in
    let w = c.round_on-end.new.board in
    let back = put_after c.args.actors.now c.take_reps.new.actors c.put_reps.new.actors c.in-Ok.reps.items
    c.deref_mut.result.now after
    c.in-Ok.reps.len c.in-Ok.ensures.taken c.deref_mut.ensures.value c.in-Ok.reps.ok.0 c.round_on-end.ensures.cells
    c.put_reps.ensures in
    was_held g.D.Disk.told c.args.now c.args.board.now w c.round_on-end.ensures.alone c.args.line.now c.args.actors.now
    (subst (λ (l : List CellRep). HasItems 0 c.args.now l (seen_of 0 c.args.board.now) (seen_of 0 w))
    (c.deref_mut.ensures.value ∙ c.in-Ok.ensures.taken.0) c.round_on-end.ensures.items)
    c.put_reps.new.actors after back.0 back.1 None
    (tells_fault g.D.Disk.told c.args.now c.args.board.now w c.round_on-end.ensures.alone c.args.line.now
    (reps_of c.args.actors.now) after
    c.in-Err-end.fault c.in-Disk.place c.in-Disk.is c.in-Err-end.ensures.cause)

pub returns-in-OutOfMemory-clause-cut : goal.returns-in-OutOfMemory-clause-cut
returns-in-OutOfMemory-clause-cut g c =
    let w = c.round_on-end.new.board in
    was_cut g.D.Disk.told c.args.now c.args.board.now w c.round_on-end.ensures.alone c.args.line.now c.args.actors.now
    (subst (λ (l : List CellRep). HasItems 0 c.args.now l (seen_of 0 c.args.board.now) (seen_of 0 w))
    (c.deref_mut.ensures.value ∙ c.in-Ok.ensures.taken.0) c.round_on-end.ensures.items)
