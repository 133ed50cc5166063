use Rattle.run_function.proofs.Calls.{call_alone}
use Rattle.run_function.proofs.laws.calls_are_alone.Goals as goal

pub returns : goal.returns
returns c = call_alone
