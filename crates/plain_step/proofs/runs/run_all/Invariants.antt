use Rattle.std.proofs.Common.{◌≡◌, take}
use Rattle.bbs_model.specs.Runs.{state_after_all, verdicts_of}
use Rattle.bbs_model.specs.Valid.{IsValid}
use Rattle.plain_step.proofs.runs.run_all.Given as goal

abbrev pub invariant-loop-command : goal.invariant-loop-command
invariant-loop-command l = record {
  valid : IsValid l.rows;
  rows : l.rows ≡ state_after_all l.fn.rows (take l.command-index l.commands);
  verdicts : l.verdicts.items ≡ verdicts_of l.fn.rows (take l.command-index l.commands);
}
