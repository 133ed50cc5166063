-- The calls of a system on two files may go to another thread, where the handle of the system may.
use denote.RattleType.{RattleType}
use denote.Struct.Struct.{Struct}
use denote.Struct.Declared.{shape}
use denote.Param.Send.{IsSend, recorded_send, sendable, struct_send}
use Rattle.std.proofs.Crossing.{crosses}
use Rattle.real_files.specs.contracts.real_calls.RealCalls as real_calls
use Rattle.real_files.specs.contracts.two_files.TwoFiles as two_files

two_files_send : (R N : RattleType) → IsSend R → IsSend (two_files.the_field R N).row
two_files_send R N r = search (sendable, crosses) depth 40

pub real_calls_send : (R F N : RattleType) → IsSend R → IsSend (real_calls.the_row R F N)
real_calls_send R F N r =
    let fields : IsSend (Struct (shape (real_calls.the_type R F N))) =
    struct_send (shape (real_calls.the_type R F N)) (
      two_files_send R N r,
      (search (sendable, crosses) depth 20, (search sendable depth 10, tt)),
    ) in
    recorded_send _ _ _ (real_calls.the_type R F N).to_one fields
