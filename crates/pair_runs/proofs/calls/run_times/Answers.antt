use Rattle.pair_runs.proofs.ByLine.{more_times, times_cut}
use Rattle.pair_runs.proofs.calls.run_times.Goals as goal

pub returns-in-Err-clause-cut : goal.returns-in-Err-clause-cut
returns-in-Err-clause-cut g c =
    times_cut c.args.line.now c.args.command.now c.loop-number.number c.mark_at-mark.result c.mark_at-mark.ensures
    (g.S.Server.view c.args.server.now) (g.S.Server.view c.loop-number.server) (g.S.Server.view c.run_once.new.server)
    c.args.account.now.answers c.loop-number.account.answers c.run_once.new.account.answers c.loop-number.invariant.runs
    c.loop-number-test.true c.in-Err.ensures.cut

pub loop-number-preserved : goal.loop-number-preserved
loop-number-preserved g c = record {
  keeps = g.met.S.Server.goes_on c.args.server.now c.loop-number.server c.run_once.new.server
      c.loop-number.invariant.keeps c.run_once.ensures.keeps;
  runs = more_times c.args.line.now c.args.command.now c.loop-number.number c.mark_at-mark.result c.mark_at-mark.ensures
      (g.S.Server.view c.args.server.now) (g.S.Server.view c.loop-number.server) (g.S.Server.view c.run_once.new.server)
      c.args.account.now.answers c.loop-number.account.answers c.run_once.new.account.answers
      c.loop-number.invariant.runs c.in-Ok.ensures.ran;
}
