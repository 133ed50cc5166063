use Rattle.scenario_lines.proofs.line.outline_in.Goals as goal

pub returns-in-At : goal.returns-in-At
returns-in-At c = rw c.in-At.is (c.phase_in.ensures _)

pub returns-in-Round : goal.returns-in-Round
returns-in-Round c = rw c.in-Round.is (c.round_in.ensures _)
