use Rattle.run_theorem.proofs.OwnAnswers.{answers_stand}
use Rattle.run_theorem.proofs.laws.answers_of_actors_stand.Goals as goal

pub returns : goal.returns
returns c = answers_stand
