use Rattle.std.proofs.Common.{◌+◌, arith}
use Rattle.pair_runs.specs.Turns.{turns_in}
use Rattle.pair_runs.proofs.ByLine.{more_turns, turns_cut}
use Rattle.pair_runs.proofs.calls.run_actors.Goals as goal

pub returns-in-Err-clause-cut : goal.returns-in-Err-clause-cut
returns-in-Err-clause-cut g c =
    turns_cut (turns_in c.args.at c.args.lines.now) 1 c.args.actors c.loop-number.number (c.loop-number.number + 1)
    (omega arith) (g.S.Server.view c.args.server.now) (g.S.Server.view c.loop-number.server)
    (g.S.Server.view c.run_actor.new.server) c.args.account.now.answers c.loop-number.account.answers
    c.run_actor.new.account.answers c.loop-number.invariant.runs c.loop-number-test.true c.in-Err.ensures.cut

pub loop-number-preserved : goal.loop-number-preserved
loop-number-preserved g c = record {
  keeps = g.met.S.Server.goes_on c.args.server.now c.loop-number.server c.run_actor.new.server
      c.loop-number.invariant.keeps c.run_actor.ensures.keeps;
  runs = more_turns (turns_in c.args.at c.args.lines.now) 1 c.args.actors c.loop-number.number
      (c.loop-number.number + 1)
      (omega arith) (g.S.Server.view c.args.server.now) (g.S.Server.view c.loop-number.server)
      (g.S.Server.view c.run_actor.new.server) c.args.account.now.answers c.loop-number.account.answers
      c.run_actor.new.account.answers c.loop-number.invariant.runs c.in-Ok.ensures.ran;
}
