-- What a round hands back may go to another thread (serves beside::act_beside_round).
use denote.RattleType.{RattleType}
use denote.Param.Send.{IsSend, sendable}
use Rattle.std.proofs.Crossing.{crosses}
use Rattle.convergence.specs.contracts.report.Report as report
use Rattle.phase_threads.specs.contracts.holding.Held as held
use Rattle.bbs_model.proofs.command.Command.TheSendSync as command
use Rattle.bbs_model.proofs.verdict.BoardRefusal.TheSendSync as refusal
use Rattle.cell_records.proofs.job_name.JobName.TheSendSync as job_name
use Rattle.cell_rep.proofs.rep.CellRep.TheSendSync as rep
use Rattle.diego_names.proofs.list.List.TheSendSync as list
use Rattle.diego_names.proofs.instance.Instance.TheSendSync as instance
use Rattle.diego_names.proofs.name.Name.TheSendSync as name

pub report_send : IsSend report.the_row
report_send =
    search (sendable, crosses, command.the_send, refusal.the_send, job_name.the_send, list.the_send, instance.the_send, name.the_send)
    depth 60 fits 8000

pub held_send : (P : RattleType) → IsSend P → IsSend (held.the_row P)
held_send P s = search (sendable, crosses, report_send, rep.the_send) depth 60 fits 8000
