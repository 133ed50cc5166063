use Rattle.program_tools.proofs.still.tools_top.Goals as goal

pub returns-clause-ends : goal.returns-clause-ends
returns-clause-ends g c = (
  c.still-ending.result.0,
  c.top_end.ensures.status,
  rw (c.top_end.ensures.ports.1, c.top_end.ensures.ports.2) c.still-ending.ensures.ends,
)
