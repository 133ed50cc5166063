use Rattle.std.proofs.Common.{ap}
use Rattle.program_ends.specs.declared.ending.Ending.{Ending}
use Rattle.program_run.specs.declared.ended.Ended.{Ended}
use Rattle.large_runs.proofs.large.print_summary.Goals as goal

pub returns : goal.returns
returns g c = record {
  whole = c.written.result;
  ended = ap (λ (how : Ending). record c.args.ended { ending = how }) c.ending_by-ended.ensures;
  prints = record { cause = c.written.ensures.cause; front = c.written.ensures.front; all = c.written.ensures.all };
}
