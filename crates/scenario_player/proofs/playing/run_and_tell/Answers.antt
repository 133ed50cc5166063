use Rattle.std.proofs.Common.{◌≡◌, ◌∙◌, List, take, rules, refl, sym, ap, subst, inr}
use Rattle.std.specs.List.Sorted.{IsPermutation}
use Rattle.phase_runs.specs.Phases.{PhaseRan}
use Rattle.scenario_lines.specs.declared.answered.Answered.{Answered}
use Rattle.phase_text.specs.Answers.{AreByLine}
use Rattle.phase_text.specs.Sorting.{joined_parts}
use Rattle.scenario_player.proofs.Acting.{can_all, few_actors}
use Rattle.scenario_player.proofs.Answering.{answers_of}
use Rattle.scenario_player.proofs.PhaseTold.{in_order, is_told, kept_with}
use Rattle.scenario_player.proofs.playing.run_and_tell.Goals as goal

pub run_phase-board-requires-clause-can : goal.run_phase-board-requires-clause-can
run_phase-board-requires-clause-can g c κs within =
    can_all c.args.script.now c.requires.script c.args.actors.now c.requires.same c.args.phase.now c.requires.among

pub run_phase-board-requires-clause-few : goal.run_phase-board-requires-clause-few
run_phase-board-requires-clause-few g c κs within = few_actors c.args.script.now c.requires.script c.args.actors.now
    c.requires.same

pub tell-made-requires-clause-answers : goal.tell-made-requires-clause-answers
tell-made-requires-clause-answers g c =
    let news = c.run_phase-board.new.actors in
    let left = c.run_phase-board.result.0 in
    let parts = c.in-Ok.ran.parts in
    let ran : PhaseRan g.D.Disk.told c.args.phase.now c.args.actors.now news parts c.in-Ok.ran.report c.args.board
    left = search rules in
    in_order c.args.script.now.actors c.args.phase.now.lines (joined_parts parts) c.items.result.now
    (answers_of g.D.Disk.told c.args.script.now c.requires.script c.args.phase.now c.requires.among c.args.actors.now
    news
    c.requires.same parts c.in-Ok.ran.report c.args.board left ran)
    (subst (λ xs. IsPermutation (joined_parts parts) xs) (sym c.items.ensures) c.in-Ok-answers_by_line.ensures.same)

pub tell-made-requires-clause-by_line : goal.tell-made-requires-clause-by_line
tell-made-requires-clause-by_line g c = subst (λ xs. AreByLine xs)
    (sym c.items.ensures) c.in-Ok-answers_by_line.ensures.rising

pub returns-in-Ok-add-clause-told : goal.returns-in-Ok-add-clause-told
returns-in-Ok-add-clause-told g c =
    let script = c.args.script.now in
    let phase = c.args.phase.now in
    let news = c.run_phase-board.new.actors in
    let left = c.run_phase-board.result.0 in
    let parts = c.in-Ok.ran.parts in
    let report = c.in-Ok.ran.report in
    let answers = c.in-Ok-answers_by_line.answers in
    let from = c.place-from.result in
    let ran : PhaseRan g.D.Disk.told phase c.args.actors.now news parts report c.args.board left = search rules in
    let added : c.add.new.self ≡ kept_with c.args.kept.now answers report = search rules in
    is_told g.D.Disk.told g.T.Teller.wording script phase c.args.actors.now news parts report c.args.board left
    c.args.kept.now c.add.new.self
    answers c.in-Ok-made.text.items c.requires.calm ran c.in-Ok-answers_by_line.ensures.value added from
    c.place-from.ensures
    (c.in-Ok-made.ensures.text
    ∙ ap (λ (xs : List Answered). g.T.Teller.wording script phase xs report left.base (take from left.log) left.log)
    c.items.ensures)

pub returns-in-Err-answers_by_line-clause-untold : goal.returns-in-Err-answers_by_line-clause-untold
returns-in-Err-answers_by_line-clause-untold g c =
    let ran : PhaseRan g.D.Disk.told c.args.phase.now c.args.actors.now c.run_phase-board.new.actors c.in-Ok.ran.parts
    c.in-Ok.ran.report c.args.board c.run_phase-board.result.0 = search rules in
    (refl, inr (c.run_phase-board.new.actors, c.in-Ok.ran.parts, c.in-Ok.ran.report, ran))

pub returns-in-Err-made-clause-untold : goal.returns-in-Err-made-clause-untold
returns-in-Err-made-clause-untold g c =
    let ran : PhaseRan g.D.Disk.told c.args.phase.now c.args.actors.now c.run_phase-board.new.actors c.in-Ok.ran.parts
    c.in-Ok.ran.report c.args.board c.run_phase-board.result.0 = search rules in
    (refl, inr (c.run_phase-board.new.actors, c.in-Ok.ran.parts, c.in-Ok.ran.report, ran))

pub returns-clause-untold : goal.returns-clause-untold
returns-clause-untold g c =
    let ran : PhaseRan g.D.Disk.told c.args.phase.now c.args.actors.now c.run_phase-board.new.actors c.in-Ok.ran.parts
    c.in-Ok.ran.report c.args.board c.run_phase-board.result.0 = search rules in
    (search rules, inr (c.run_phase-board.new.actors, c.in-Ok.ran.parts, c.in-Ok.ran.report, ran))
