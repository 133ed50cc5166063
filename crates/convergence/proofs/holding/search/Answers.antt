use Rattle.std.proofs.Common.{◌∙◌, sym}
use Rattle.convergence.proofs.Holdings.{held_here, held_not, held_nowhere}
use Rattle.convergence.proofs.holding.search.Goals as goal

pub returns-in-Some : goal.returns-in-Some
returns-in-Some c =
    held_here c.args.job.now c.args.instance.now c.args.containers.now c.in-Some.container c.requires
    (sym c.in-Some.is ∙ c.numbered.ensures)
    (sym c.is_container_of.ensures ∙ c.if-is_container_of.true)

pub returns-in-Some-2 : goal.returns-in-Some-2
returns-in-Some-2 c =
    held_not c.args.job.now c.args.instance.now c.args.containers.now c.in-Some.container c.requires
    (sym c.in-Some.is ∙ c.numbered.ensures)
    (sym c.is_container_of.ensures ∙ c.if-is_container_of.false)

pub returns-in-None : goal.returns-in-None
returns-in-None c = held_nowhere c.args.job.now c.args.instance.now c.args.containers.now c.requires
    (sym c.in-None.is ∙ c.numbered.ensures)
