use Rattle.loss_cases.proofs.cases.question_about.Goals as goal

pub processes_in-requires : goal.processes_in-requires
processes_in-requires c = c.in_ok-base.ensures.sound.before

pub returns-clause-sound : goal.returns-clause-sound
returns-clause-sound c = record { base = c.in_ok-base.ensures.sound; processes = c.in_ok-processes.ensures }
