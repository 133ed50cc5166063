use Rattle.loss_cases.specs.Cases.{case_of}
use Rattle.loss_cases.proofs.Alone.{tried_next}
use Rattle.loss_cases.proofs.trying.try_each.Goals as goal

pub loop-loss-preserved : goal.loop-loss-preserved
loop-loss-preserved c =
    tried_next (case_of c.args.question.now.base.site.now) c.args.cases.now.items c.loop-loss.cases.items
    c.push.new.self.items
    c.args.losses.now
    c.loop-loss.loss-index c.loss-item.result c.in_ok-case.case c.loop-loss-test.true c.loss-item.is
    c.loop-loss.invariant
    c.in_ok-case.ensures c.in_ok-push.ensures.items
