use Rattle.std.proofs.Common.{rules}
use Rattle.bbs_codec.specs.Format.{seen_at}
use Rattle.bbs_codec.specs.Ops.{op_at}
use Rattle.bbs_codec.proofs.ops.processes.read_process_command.Goals as goal

pub returns-in_err-process-in-3 : goal.returns-in_err-process-in-3
unfolding op_at seen_at
returns-in_err-process-in-3 c = rw c.in-3.is (search rules)

pub returns-in_err-end_at-in-3 : goal.returns-in_err-end_at-in-3
unfolding op_at seen_at
returns-in_err-end_at-in-3 c = rw c.in-3.is (search rules)

pub returns-in_ok-end_at-in-3 : goal.returns-in_ok-end_at-in-3
unfolding op_at seen_at
returns-in_ok-end_at-in-3 c = rw c.in-3.is (search rules)
