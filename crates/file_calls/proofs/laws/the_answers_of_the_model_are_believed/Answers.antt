use Rattle.file_calls.proofs.HonestLemmas.{believes, doubts}
use Rattle.file_calls.proofs.laws.the_answers_of_the_model_are_believed.Goals as goal

pub returns-clause-believed : goal.returns-clause-believed
returns-clause-believed c = believes

pub returns-clause-doubted : goal.returns-clause-doubted
returns-clause-doubted c = doubts
