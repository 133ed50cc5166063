use denote.Param.Send.{sendable}
use Rattle.std.proofs.Crossing.{crosses}
use Rattle.file_calls.proofs.file_disk.FileDisk.TheSendSync as file_disk
use Rattle.real_files.proofs.Public.{real_calls_send}
use Rattle.diego_run.proofs.main.Goals as goal

-- the disk of files goes to the threads of a phase
pub diego_top-status-requires-send-D : goal.diego_top-status-requires-send-D
diego_top-status-requires-send-D g c κs = search (sendable, crosses, file_disk.the_send, real_calls_send) depth 60
