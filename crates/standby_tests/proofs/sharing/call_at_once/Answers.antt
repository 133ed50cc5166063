-- A pass may be sent to a thread, and the pair be shared.
use denote.Param.Send.{sendable}
use Rattle.std.proofs.Crossing.{crosses}
use Rattle.diego_names.proofs.name.Name.TheSendSync as name
use Rattle.ticket_desk.proofs.pass.Pass.TheSendSync as pass
use Rattle.pair_desk.proofs.Public.{at_desk_send, shared_sync}
use Rattle.standby_tests.proofs.sharing.Counts.TheSendSync as counts
use Rattle.standby_tests.proofs.sharing.call_at_once.Goals as goal

pub for_each_mut-requires-send-T : goal.for_each_mut-requires-send-T
for_each_mut-requires-send-T g c κs within = search (sendable, crosses, pass.the_send, at_desk_send) depth 40

pub for_each_mut-requires-sync-F : goal.for_each_mut-requires-sync-F
for_each_mut-requires-sync-F g c κs within =
    search (sendable, crosses, shared_sync, name.the_sync, counts.the_sync) depth 40
