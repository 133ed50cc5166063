use Rattle.std.proofs.Common.{◌+◌, get_or, set, List, [], ◌∷◌, ◌++◌, ap, subst, sym, ◌∙◌}
use Rattle.scenario_lines.specs.declared.answered.Answered.{Answered}
use Rattle.phase_actors.specs.Turns.{actor_standing, Takes, turns_in}
use Rattle.board_port.specs.Went.{seen_of}
use Rattle.phase_runs.specs.Actors.{FirstRan}
use Rattle.phase_runs.proofs.InTurn.{none_ran, one_can, one_ran, one_cut, ran_then_cut}
use Rattle.phase_runs.proofs.actors.run_actors.Goals as goal

pub loop-index-init : goal.loop-index-init
loop-index-init g c =
    subst (λ parts. FirstRan g.D.Disk.told c.args.now c.args.lines.now 0 c.args.actors.now c.args.actors.now parts
    c.args.board.now c.args.board.now)
    (sym c.new-parts.ensures) (none_ran g.D.Disk.told c.args.now c.args.lines.now c.args.actors.now c.args.board.now)

pub act_on-requires : goal.act_on-requires
act_on-requires g c =
    one_can c.args.lines.now c.args.actors.now c.loop-index.actors c.loop-index.index c.index-actors-index.result
    c.requires.can
    c.loop-index.auto.actors c.loop-index-test.true c.loop-index.invariant.still

pub returns-in-Err-clause-cut : goal.returns-in-Err-clause-cut
returns-in-Err-clause-cut g c =
    one_cut g.D.Disk.told c.args.now c.args.lines.now c.args.actors.now c.args.board.now c.loop-index.index
    c.loop-index.actors c.loop-index.parts
    c.loop-index.board c.act_on.new.board c.loop-index.invariant c.index-actors-index.result c.act_on.new.actor
    c.loop-index.auto.actors c.loop-index-test.true c.act_on.ensures.one c.act_on.ensures.alone c.in-Err.ensures.cut

pub returns-in-Err-push-clause-cut : goal.returns-in-Err-push-clause-cut
returns-in-Err-push-clause-cut g c =
    ran_then_cut g.D.Disk.told c.args.now c.args.lines.now c.args.actors.now c.args.board.now c.loop-index.index
    c.loop-index.actors c.loop-index.parts
    c.loop-index.board c.act_on.new.board c.loop-index.invariant c.index-actors-index.result c.act_on.new.actor
    c.loop-index.auto.actors c.loop-index-test.true c.act_on.ensures.one c.act_on.ensures.alone c.new-part.result.items
    c.act_on.new.out.items
    c.new-part.ensures.items c.in-Ok.ensures.taken

pub loop-index-preserved : goal.loop-index-preserved
loop-index-preserved g c =
    subst (λ parts. FirstRan g.D.Disk.told c.args.now c.args.lines.now (c.loop-index.index + 1) c.args.actors.now
    (set c.loop-index.actors c.loop-index.index c.act_on.new.actor) parts c.args.board.now c.act_on.new.board)
    (sym (c.in-Ok-push.ensures.ok ∙ ap (λ l. c.loop-index.parts ++ l ∷ []) c.from.ensures))
    (one_ran g.D.Disk.told c.args.now c.args.lines.now c.args.actors.now c.args.board.now c.loop-index.index
    c.loop-index.actors c.loop-index.parts
    c.loop-index.board c.act_on.new.board c.loop-index.invariant c.index-actors-index.result c.act_on.new.actor
    c.loop-index.auto.actors c.loop-index-test.true c.act_on.ensures.one c.act_on.ensures.alone c.act_on.new.out.items
    (subst (λ (l : List Answered). Takes (c.loop-index.index + 1) c.args.now
    (turns_in (c.loop-index.index + 1) c.args.lines.now)
    (actor_standing (get_or c.loop-index.actors c.loop-index.index c.index-actors-index.result)
    (seen_of (c.loop-index.index + 1) c.loop-index.board) l)
    (actor_standing c.act_on.new.actor (seen_of (c.loop-index.index + 1) c.act_on.new.board) c.act_on.new.out.items))
    c.new-part.ensures.items c.in-Ok.ensures.taken))
