-- The board comes back from its actors and its round, and the cells have their reps again.
use Rattle.std.proofs.Common.{◌≡◌, List, Result, Ok, Err, IfOk, OnErr, length, map, refl, sym, ap, ◌∙◌, subst}
use Rattle.std.proofs.lemmas.List.{length-map}
use Rattle.cell_rep.specs.declared.rep.CellRep.{CellRep}
use Rattle.scenario_lines.specs.declared.script.Line.{Line}
use Rattle.phase_actors.specs.declared.actor_state.ActorState.{ActorState}
use Rattle.phase_runs.specs.Actors.{CanAllDo}
use Rattle.phase_runs.specs.Phases.{PhaseCut, PhaseRan}
use Rattle.phase_runs.specs.Reps.{bare}
use Rattle.phase_threads.specs.Holding.{WasBegun, WasHeld}
use Rattle.phase_threads.specs.Sharing.{AreBack, HaveRun, WereCut}
use Rattle.phase_threads.proofs.Away.{all_can_bare}
use Rattle.phase_threads.proofs.Closing.{cut_with_round, nothing_done, whole_with_round}
use Rattle.phase_threads.proofs.phases.run_shared_with_round.Goals as goal

both_ok : {T E : Type 0} (r : Result T E) (P Q S : T → Type 0) → ((x : T) → P x → Q x → S x) → IfOk r P → IfOk r Q
    → IfOk r S
both_ok (Ok x) P Q S f p q = f x p q
both_ok (Err e) P Q S f p q = tt

then_err : {T E : Type 0} (r : Result T E) (X Y : Type 0) → (X → Y) → OnErr r X → OnErr r Y
then_err (Ok x) X Y f is = tt
then_err (Err e) X Y f is = f is

as_long : (olds bared : List ActorState) → bared ≡ map bare olds → length bared ≡ length olds
as_long olds bared is = ap length is ∙ length-map olds bare

pub returns-in-Err-clause-cut : goal.returns-in-Err-clause-cut
returns-in-Err-clause-cut g c = nothing_done g.D.Disk.told c.args.phase.now c.args.actors.now c.args.board

pub returns-in-Err-start-clause-cut : goal.returns-in-Err-start-clause-cut
returns-in-Err-start-clause-cut g c =
    subst (λ w. PhaseCut g.D.Disk.told c.args.phase.now c.args.actors.now c.args.board w)
    (sym c.in-Err-start.ensures.err)
    (nothing_done g.D.Disk.told c.args.phase.now c.args.actors.now c.args.board)

pub run_with_round-passes-requires-clause-can : goal.run_with_round-passes-requires-clause-can
run_with_round-passes-requires-clause-can g c κs within =
    subst (λ (lines : List Line). CanAllDo lines c.take_reps.new.actors) (sym c.items.ensures)
    (subst (CanAllDo c.args.phase.now.lines) (sym c.in-Ok.ensures.taken.1)
    (all_can_bare c.args.phase.now.lines c.args.actors.now c.requires.can))

pub returns-clause-ran : goal.returns-clause-ran
returns-clause-ran g c =
    let shared = c.in-Ok-start.begun.0 in let start = shared.desk.table.shared.key.value.start in let z =
    shared.desk.table.shared.table_id in
    let olds = c.args.actors.now in let bared = c.take_reps.new.actors in let taken = c.in-Ok.ensures.taken in
    let phase = c.args.phase.now in
    let done = c.run_with_round-passes in let passes = done.result.passes.items in let news = done.new.actors in
    let reps = done.result.cells.items in
    let finals = c.put_reps-2.new.actors in let line = c.args.line.now in
    let back = subst (λ n. AreBack z n passes) (as_long olds bared taken.1) done.ensures.back in
    both_ok done.result.end (λ ran. HaveRun start phase.at c.items.result.now bared news ran.parts passes)
    (λ ran. WasHeld start phase.at line c.in-Ok.cells.items reps ran.report passes)
    (λ ran. PhaseRan g.D.Disk.told phase olds finals ran.parts ran.report c.args.board c.close.result)
    (λ ran run held. subst (λ v. PhaseRan g.D.Disk.told phase olds finals ran.parts ran.report v c.close.result)
    c.in-Ok-start.ensures.board
    (whole_with_round g.D.Disk.told start c.close.result z
    (length olds) passes back c.close.ensures phase olds refl line c.requires.round
    c.requires.clients c.requires.can news finals ran.parts ran.report reps
    (subst (λ (lines : List Line). HaveRun start phase.at lines (map bare olds) news ran.parts passes) c.items.ensures
    (subst (λ (l : List ActorState). HaveRun start phase.at c.items.result.now l news ran.parts passes) taken.1 run))
    (subst (λ (l : List CellRep). WasHeld start phase.at line l reps ran.report passes) taken.0 held)
    c.put_reps-2.ensures))
    done.ensures.ran done.ensures.held

pub returns-clause-cut : goal.returns-clause-cut
returns-clause-cut g c =
    let shared = c.in-Ok-start.begun.0 in let start = shared.desk.table.shared.key.value.start in let z =
    shared.desk.table.shared.table_id in
    let olds = c.args.actors.now in let bared = c.take_reps.new.actors in let taken = c.in-Ok.ensures.taken in
    let phase = c.args.phase.now in
    let done = c.run_with_round-passes in let passes = done.result.passes.items in let line = c.args.line.now in
    let back = subst (λ n. AreBack z n passes) (as_long olds bared taken.1) done.ensures.back in
    then_err done.result.end (WereCut start phase.at c.items.result.now bared passes)
    (PhaseCut g.D.Disk.told phase olds c.args.board c.close.result)
    (λ cut. subst (λ v. PhaseCut g.D.Disk.told phase olds v c.close.result) c.in-Ok-start.ensures.board
    (cut_with_round g.D.Disk.told start c.close.result z (length olds) passes back c.close.ensures phase olds refl line
    c.requires.round
    c.requires.clients c.requires.can
    (subst (λ (lines : List Line). WereCut start phase.at lines (map bare olds) passes) c.items.ensures
    (subst (λ (l : List ActorState). WereCut start phase.at c.items.result.now l passes) taken.1 cut))
    (subst (λ (l : List CellRep). WasBegun start phase.at l passes) taken.0 done.ensures.begun)))
    done.ensures.cut
