use Rattle.event_laws.proofs.Others.{keeps_others}
use Rattle.event_laws.proofs.laws.commands_change_their_own_rows.Goals as goal

pub returns : goal.returns
returns c = keeps_others
