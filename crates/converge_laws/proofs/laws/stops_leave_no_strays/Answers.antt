use Rattle.converge_laws.proofs.StopStage.{stops-leave_none}
use Rattle.converge_laws.proofs.laws.stops_leave_no_strays.Goals as goal

pub returns : goal.returns
returns c = λ rows got before after now planned heard without.
    stops-leave_none rows got before after now heard without planned
