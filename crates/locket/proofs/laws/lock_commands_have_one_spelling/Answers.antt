use Rattle.locket.proofs.Reading.{lock_again, lock_known}
use Rattle.locket.proofs.laws.lock_commands_have_one_spelling.Goals as goal

pub returns : goal.returns
returns c = record { back = lock_again; one = lock_known }
