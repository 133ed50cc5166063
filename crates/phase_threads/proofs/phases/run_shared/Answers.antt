-- The board comes back from its actors.
use Rattle.std.proofs.Common.{rules, List, None, length, refl, sym, subst}
use Rattle.scenario_lines.specs.declared.script.Line.{Line}
use Rattle.phase_runs.specs.Phases.{PhaseCut, PhaseRan}
use Rattle.phase_threads.specs.Sharing.{HaveRun, WereCut}
use Rattle.phase_threads.proofs.Closing.{cut_before_round, nothing_done, whole_without_round}
use Rattle.phase_threads.proofs.phases.run_shared.Goals as goal

pub returns-in-Err-clause-cut : goal.returns-in-Err-clause-cut
returns-in-Err-clause-cut g c =
    subst (λ w. PhaseCut g.D.Disk.told c.args.phase.now c.args.actors.now c.args.board w) (sym c.in-Err.ensures.err)
    (nothing_done g.D.Disk.told c.args.phase.now c.args.actors.now c.args.board)

pub returns-in-Ok-end-clause-ran : goal.returns-in-Ok-end-clause-ran
returns-in-Ok-end-clause-ran g c =
    let shared = c.in-Ok.begun.0 in let start = shared.desk.table.shared.key.value.start in let passes =
    c.run_actors-passes.result.0.items in
    let news = c.run_actors-passes.new.actors in let parts = c.in-Ok-end.parts in let olds = c.args.actors.now in
    let run : HaveRun start c.args.phase.now.at c.items-lines.result.now olds news parts passes = search rules in
    subst (λ v. PhaseRan g.D.Disk.told c.args.phase.now olds news parts None v c.close-board.result)
    c.in-Ok.ensures.board
    (whole_without_round g.D.Disk.told start c.close-board.result shared.desk.table.shared.table_id (length olds) passes
    c.run_actors-passes.ensures.back c.close-board.ensures c.args.phase.now olds refl c.requires.none
    c.run_actors-passes.ensures.round news parts
    (subst (λ (lines : List Line). HaveRun start c.args.phase.now.at lines olds news parts passes) c.items-lines.ensures
    run))

pub returns-in-Err-end-clause-cut : goal.returns-in-Err-end-clause-cut
returns-in-Err-end-clause-cut g c =
    let shared = c.in-Ok.begun.0 in let start = shared.desk.table.shared.key.value.start in let passes =
    c.run_actors-passes.result.0.items in
    let olds = c.args.actors.now in
    let cut : WereCut start c.args.phase.now.at c.items-lines.result.now olds passes = search rules in
    subst (λ v. PhaseCut g.D.Disk.told c.args.phase.now olds v c.close-board.result) c.in-Ok.ensures.board
    (cut_before_round g.D.Disk.told start c.close-board.result shared.desk.table.shared.table_id (length olds) passes
    c.run_actors-passes.ensures.back c.close-board.ensures c.args.phase.now olds refl c.run_actors-passes.ensures.round
    (subst (λ (lines : List Line). WereCut start c.args.phase.now.at lines olds passes) c.items-lines.ensures cut))
