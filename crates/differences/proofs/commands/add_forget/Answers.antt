use Rattle.std.proofs.Common.{◌++◌, Option, ap, ◌∙◌}
use Rattle.std.specs.Option.{option_map, option_to_list}
use Rattle.bbs_model.specs.Work.{at}
use Rattle.bbs_model.specs.declared.command.Command.{Command}
use Rattle.convergence.proofs.Public.{asked_more}
use Rattle.differences.specs.Commands.{forget}
use Rattle.differences.proofs.commands.add_forget.Goals as goal

pub loop-domain-preserved : goal.loop-domain-preserved
loop-domain-preserved c =
    c.in_ok-add.ensures
    ∙ ap (λ (o : Option Command). c.loop-domain.list ++ option_to_list o)
    (c.command_at.ensures ∙ ap (option_map (at c.args.now)) c.forget.ensures)
    ∙ asked_more forget (at c.args.now) c.args.domains.now c.loop-domain.domain-index c.domain-item.result
    c.args.list.now
    c.loop-domain.list c.loop-domain-test.true c.domain-item.is c.loop-domain.invariant
