use Rattle.std.proofs.Common.{◌≡◌, ◌∙◌, None, find, take, sym, ap, arith}
use Rattle.std.proofs.lemmas.List.{take_all}
use Rattle.convergence.specs.Containers.{is_container_of}
use Rattle.convergence.proofs.Finds.{find-more, find-here}
use Rattle.convergence.proofs.holding.scan.Goals as goal

pub returns-then-is_container_of : goal.returns-then-is_container_of
returns-then-is_container_of c =
    find-here (is_container_of c.args.job.now c.args.instance.now) c.args.containers.now
    c.loop-container.container-index c.container-item.result
    c.loop-container-test.true c.container-item.is c.loop-container.invariant
    (sym c.is_container_of.ensures ∙ c.if-is_container_of.true)

pub loop-container-preserved : goal.loop-container-preserved
loop-container-preserved c =
    find-more (is_container_of c.args.job.now c.args.instance.now) c.args.containers.now
    c.loop-container.container-index c.container-item.result
    c.loop-container-test.true c.container-item.is c.loop-container.invariant
    (sym c.is_container_of.ensures ∙ c.if-is_container_of.false)

pub returns : goal.returns
returns c =
    let all : take c.loop-container.container-index c.args.containers.now ≡ c.args.containers.now =
    take_all c.loop-container.container-index c.args.containers.now c.loop-container-test.false in
    sym (ap (find (is_container_of c.args.job.now c.args.instance.now)) (sym all) ∙ c.loop-container.invariant)
