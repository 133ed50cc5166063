use denote.Param.Send.{sendable}
use Rattle.std.proofs.Crossing.{crosses}
use Rattle.phase_threads.proofs.Sent.{held_send}
use Rattle.phase_threads.proofs.beside.act_beside_round.Goals as goal

-- what the round hands back may go to another thread: a report, too
pub join-requires-send-A : goal.join-requires-send-A
join-requires-send-A g c κs within = search (sendable, crosses, held_send) depth 40 fits 4000
