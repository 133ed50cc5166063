-- What is looked up once for all losses of a question.
use Rattle.site_answers.specs.Processes.{AreProcesses}
use Rattle.what_if.specs.Baselines.{IsBaseline}
use Rattle.loss_cases.specs.declared.cases.Question.{Question}

-- what stands and waits with nothing lost, and the processes, are those of one site
pub record IsQuestion (q : Question) : Type 0 where
  pub base : IsBaseline q.base
  pub processes : AreProcesses q.base.site.now q.processes
