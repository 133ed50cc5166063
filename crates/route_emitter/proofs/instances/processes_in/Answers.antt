use Rattle.std.proofs.Common.{arith}
use Rattle.std.proofs.lemmas.Grind.{common_steps}
use Rattle.std.proofs.lemmas.List.Elements.{filter_map-append}
use Rattle.diego_names.proofs.Public.{IsKeyOrder-name_order}
use Rattle.route_emitter.proofs.instances.processes_in.Goals as goal

pub loop-event-preserved : goal.loop-event-preserved
loop-event-preserved c = grind (arith, common_steps, filter_map-append)

pub put_in_order-requires : goal.put_in_order-requires
put_in_order-requires c = IsKeyOrder-name_order
