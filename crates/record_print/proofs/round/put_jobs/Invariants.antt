use Rattle.std.proofs.Common.{take}
use Rattle.line_writing.specs.Writing.{AddsTokens}
use Rattle.record_print.specs.Jobs.{job_tokens}
use Rattle.record_print.proofs.round.put_jobs.Given as goal

abbrev pub invariant-loop-job : goal.invariant-loop-job
invariant-loop-job l = AddsTokens l.fn.line l.line (job_tokens (take l.job-index l.jobs))
