use Rattle.std.proofs.Common.{List, [], ◌∷◌, ◌++◌, ap, ◌∙◌}
use Rattle.pair_lines.specs.declared.answered.PairAnswered.{PairAnswered}
use Rattle.pair_runs.specs.Calls.{answer_by}
use Rattle.pair_runs.proofs.Taking.{runs_one}
use Rattle.pair_runs.proofs.calls.run_once.Goals as goal

pub returns-clause-ran : goal.returns-clause-ran
returns-clause-ran g c =
    let line = c.args.line.now in
    let end = c.in-Ok-call_under.end in
    runs_one line.actor line.line c.args.command.now c.args.mark end (g.S.Server.view c.args.server.now)
    (g.S.Server.view c.call_under.new.server) c.args.account.now.answers c.add.new.self.answers
    c.in-Ok-call_under.ensures.calls
    (c.add.ensures ∙ ap (λ (l : List PairAnswered). l ++ answer_by line.actor line.line c.args.command.now end ∷ [])
    c.reserve.ensures.stays)
