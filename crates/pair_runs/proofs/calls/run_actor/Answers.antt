use Rattle.pair_runs.proofs.ByLine.{lines_cut, more_lines}
use Rattle.pair_runs.proofs.calls.run_actor.Goals as goal

pub returns-in-Err-clause-cut : goal.returns-in-Err-clause-cut
returns-in-Err-clause-cut g c =
    lines_cut c.args.at c.args.by c.args.lines.now c.loop-line.line-index c.line-item.result c.loop-line-test.true
    c.line-item.is (g.S.Server.view c.args.server.now) (g.S.Server.view c.loop-line.server)
    (g.S.Server.view c.run_line_if.new.server) c.args.account.now.answers c.loop-line.account.answers
    c.run_line_if.new.account.answers c.loop-line.invariant.runs c.in-Err.ensures.cut

pub loop-line-preserved : goal.loop-line-preserved
loop-line-preserved g c = record {
  keeps = g.met.S.Server.goes_on c.args.server.now c.loop-line.server c.run_line_if.new.server
      c.loop-line.invariant.keeps c.run_line_if.ensures.keeps;
  runs = more_lines c.args.at c.args.by c.args.lines.now c.loop-line.line-index c.line-item.result c.loop-line-test.true
      c.line-item.is (g.S.Server.view c.args.server.now) (g.S.Server.view c.loop-line.server)
      (g.S.Server.view c.run_line_if.new.server) c.args.account.now.answers c.loop-line.account.answers
      c.run_line_if.new.account.answers c.loop-line.invariant.runs c.in-Ok.ensures.ran;
}
