use Rattle.std.proofs.Common.{◌∙◌, ◌++◌, ap, Option}
use Rattle.std.specs.Option.{option_map, option_to_list}
use Rattle.bbs_model.specs.Work.{at, domain_work}
use Rattle.bbs_model.specs.declared.command.Command.{Command}
use Rattle.bbs_model.specs.declared.domain_row.DomainRow.{DomainRow}
use Rattle.convergence.proofs.Lists.{asked_more}
use Rattle.convergence.proofs.working.ask_domains.Goals as goal

pub loop-domain-preserved : goal.loop-domain-preserved
loop-domain-preserved c =
    c.in_ok-add.ensures
    ∙ ap (λ (o : Option Command). c.loop-domain.asked ++ option_to_list o)
    (c.command_at.ensures ∙ ap (option_map (at c.args.now)) c.domain_work.ensures)
    ∙ asked_more (λ (r : DomainRow). domain_work r c.args.now)
    (at c.args.now) c.args.domains.now c.loop-domain.domain-index c.domain-item.result c.args.asked.now
    c.loop-domain.asked c.loop-domain-test.true c.domain-item.is c.loop-domain.invariant
