use Rattle.std.proofs.Common.{◌≡◌, ◌+◌, ◌≤◌, ◌∙◌, ap, sym, ◌∷◌, [], ◌++◌, List, length, take, arith}
use Rattle.bbs_model.specs.declared.verdict.Verdict.{Verdict}
use Rattle.bbs_model.specs.Runs.{state_after_all, verdicts_of}
use Rattle.plain_step.proofs.Running.{one_command_more, one_verdict_more}
use Rattle.plain_step.proofs.runs.run_all.Goals as goal
use Rattle.std.proofs.lemmas.Result.{err_from_is_err_and}

pub returns-in_err-push-clause-err : goal.returns-in_err-push-clause-err
returns-in_err-push-clause-err c =
    let reached : c.run.new.rows ≡ state_after_all c.args.rows.now
    (take (c.loop-command.command-index + 1) c.args.commands.now) =
    c.in_ok-run.ensures.rows ∙ one_command_more c.args.rows.now c.loop-command.rows c.args.commands.now
    c.loop-command.command-index c.command-item.result c.loop-command-test.true c.command-item.is
    c.loop-command.invariant.rows in
    let within : c.loop-command.command-index + 1 ≤ length c.args.commands.now = omega arith in
    rw (err_from_is_err_and c.from_residual-in_err-push.result c.from_residual-in_err-push.ensures.1).1
    (record { done = c.loop-command.command-index + 1; within = within; reaches = reached })

pub loop-command-preserved : goal.loop-command-preserved
loop-command-preserved c = record {
  valid = c.run.ensures.valid;
  rows = c.in_ok-run.ensures.rows ∙ one_command_more c.args.rows.now c.loop-command.rows c.args.commands.now
      c.loop-command.command-index c.command-item.result c.loop-command-test.true c.command-item.is
      c.loop-command.invariant.rows;
  verdicts =
      let pushed : c.push.new.self.items ≡ c.loop-command.verdicts.items ++ c.in_ok-run.field-0 ∷ [] =
      c.in_ok-push.ensures.items in
      pushed ∙ ap (λ (vs : List Verdict). vs ++ c.in_ok-run.field-0 ∷ []) c.loop-command.invariant.verdicts
      ∙ ap (λ (v : Verdict). verdicts_of c.args.rows.now (take c.loop-command.command-index c.args.commands.now) ++ v
      ∷ []) c.in_ok-run.ensures.verdict
      ∙ sym (one_verdict_more c.args.rows.now c.loop-command.rows c.args.commands.now c.loop-command.command-index
      c.command-item.result c.loop-command-test.true c.command-item.is c.loop-command.invariant.rows);
}
