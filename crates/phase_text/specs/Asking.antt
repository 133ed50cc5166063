-- What an answer is about: the command that was made, or what its line says where none was.
use Rattle.std.specs.Prelude.{Option, Some, None}
use Rattle.bbs_model.specs.declared.command.Command.{Command as ACommand}
use Rattle.cell_records.specs.declared.job_name.JobName.{JobName}
use Rattle.cell_records.specs.declared.job_name.JobName.TheVariants.{Lrp, Task}
use Rattle.cell_rep.specs.declared.cell_act.CellAct.{CellAct}
use Rattle.cell_rep.specs.declared.cell_act.CellAct.TheVariants as cell
use Rattle.record_print.specs.declared.asked.ActWord.{ActWord}
use Rattle.record_print.specs.declared.asked.ActWord.TheVariants as word
use Rattle.record_print.specs.declared.asked.Asked.{Asked}
use Rattle.record_print.specs.declared.asked.Asked.TheVariants.{Command, Word}
use Rattle.scenario_lines.specs.declared.act.Act.{Act}
use Rattle.scenario_lines.specs.declared.act.Act.TheVariants as act
use Rattle.scenario_lines.specs.declared.script.Line.{Line}

-- the word of what a cell does
abbrev pub word_of : CellAct → ActWord
word_of (cell.Join zone tag totals ttl) = word.Join
word_of (cell.Renew ttl) = word.Renew
word_of (cell.Claim job memory disk) = word.Claim
word_of (cell.Run key memory disk) = word.Run
word_of (cell.Up job) = word.Up
word_of (cell.Crash key) = word.Crash
word_of (cell.Finish name failed) = word.Finish
word_of cell.Settle = word.Settle
word_of cell.Die = word.Die

-- the job that it names
abbrev pub act_job : CellAct → Option JobName
act_job (cell.Join zone tag totals ttl) = None
act_job (cell.Renew ttl) = None
act_job (cell.Claim job memory disk) = Some job
act_job (cell.Run key memory disk) = Some (Lrp key)
act_job (cell.Up job) = job
act_job (cell.Crash key) = Some (Lrp key)
act_job (cell.Finish name failed) = Some (Task name)
act_job cell.Settle = None
act_job cell.Die = None

-- what a line asks by itself: a client its command, and a cell by its word and the job that it names
abbrev pub asked_by : Act → Asked
asked_by (act.Client op) = Command op
asked_by (act.Cell a) = Word (word_of a) (act_job a)
asked_by act.Evacuate = Word word.Evacuate None

-- what an answer to a line is about: the command where one was made, and else what the line asks
abbrev pub asked_at : Line → Option ACommand → Asked
asked_at line (Some command) = Command command.op
asked_at line None = asked_by line.act
