-- First what begins with the end of the term, then what lasts up to it.
use Rattle.std.proofs.Common.{refl, sym, ap, subst, ◌∙◌}
use Rattle.work_causes.specs.contracts.cause.CausePartialEq.TheImpl.{eq-value}
use Rattle.watch_lists.specs.Watched.{IsTimedBy, Watched, start_of, start_while, stop_of}
use Rattle.watch_lists.proofs.Shifting.{mid_past, mid_start, past_others, stop_others, while_others}
use Rattle.watch_lists.proofs.watched.Watched.shift.Goals as goal

pub returns-clause-timed : goal.returns-clause-timed
returns-clause-timed g c u v others is timed =
    c.retime-2.ensures.timed (mid_start v u) (stop_of u) (start_of v) (stop_of v)
    (while_others u v c.args.term.now others) (stop_others u v c.args.term.now others)
    (ap start_while is ∙ sym c.while_times-2.ensures.start) (is ∙ sym c.while_times-2.ensures.stop)
    (c.retime.ensures.timed (start_of u) (stop_of u) (mid_start v u) (stop_of u)
    (past_others u v c.args.term.now others) (λ d far. refl)
    (mid_past u v c.args.term.now ∙ is ∙ sym c.past_times-2.ensures.start) (sym c.past_times-2.ensures.stop)
    (subst (λ (s : Watched _ _). IsTimedBy eq-value.it g.K.PartialEq.eq u s.watch) (sym c.self.view_is) timed))
