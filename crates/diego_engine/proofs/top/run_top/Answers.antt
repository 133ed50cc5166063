use Rattle.diego_engine.proofs.top.run_top.Goals as goal

pub returns-clause-ends : goal.returns-clause-ends
returns-clause-ends g c = (
  c.run-ended.result.0.ending,
  c.top_end.ensures.status,
  rw (
    c.top_end.ensures.lists.0,
    c.top_end.ensures.lists.1,
    c.top_end.ensures.lists.2,
    c.top_end.ensures.lists.3,
    c.top_end.ensures.ports.0,
    c.top_end.ensures.ports.1,
    c.top_end.ensures.ports.2,
  ) c.run-ended.ensures.ends,
)
