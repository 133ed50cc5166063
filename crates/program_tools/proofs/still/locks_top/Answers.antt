use Rattle.program_tools.proofs.still.locks_top.Goals as goal

pub returns-clause-ends : goal.returns-clause-ends
returns-clause-ends g c = (
  c.run_locks-ended.result.0.ending,
  c.top_end.ensures.status,
  rw (
    c.top_end.ensures.locks.0,
    c.top_end.ensures.locks.1,
    c.top_end.ensures.ports.0,
    c.top_end.ensures.ports.1,
    c.top_end.ensures.ports.2,
  ) c.run_locks-ended.ensures.ends,
)
