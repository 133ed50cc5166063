use Rattle.std.proofs.Common.{◌==◌, ◌∙◌, ℕ, ap}
use Rattle.large_runs.proofs.Public.{large_no_read}
use Rattle.diego_engine.proofs.top.large_top.Goals as goal

pub returns-clause-ends : goal.returns-clause-ends
returns-clause-ends g c = (
  c.run_large-ended.result.ending,
  c.top_end.ensures.status,
  rw (
    c.top_end.ensures.lists.0,
    c.top_end.ensures.lists.1,
    c.top_end.ensures.lists.2,
    c.top_end.ensures.lists.3,
    c.top_end.ensures.ports.1,
  ) c.run_large-ended.ensures,
)

pub returns-clause-read : goal.returns-clause-read
returns-clause-read g c =
    ap (λ (n : ℕ). n == 3) c.top_end.ensures.status
    ∙ large_no_read _ _ _ _ _ _ c.run_large-ended.result.ending c.run_large-ended.ensures
