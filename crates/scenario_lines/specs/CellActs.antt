-- What a cell does, by its line.
use Rattle.std.specs.Prelude.{Some, None, Result, Ok}
use Rattle.serde_json.specs.Data.{Data}
use Rattle.cell_records.specs.declared.job_name.JobName.{JobName}
use Rattle.cell_records.specs.declared.job_name.JobName.TheVariants as job
use Rattle.cell_rep.specs.declared.cell_act.CellAct.{CellAct}
use Rattle.cell_rep.specs.declared.cell_act.CellAct.TheVariants as act
use Rattle.scenario_lines.specs.Flaws.{◌>>=◌}
use Rattle.scenario_lines.specs.Names.{name_given, optional_name_in}
use Rattle.scenario_lines.specs.Values.{failed_in, key_said, number_given, totals_in}
use Rattle.scenario_lines.specs.declared.act.Act.{Act}
use Rattle.scenario_lines.specs.declared.act.Act.TheVariants.{Cell, Evacuate}
use Rattle.scenario_lines.specs.declared.flaw.Flaw.{Flaw}
use Rattle.scenario_lines.specs.declared.form.CellOp.{CellOp}
use Rattle.scenario_lines.specs.declared.form.CellOp.TheVariants as cell
use Rattle.scenario_lines.specs.declared.member.Member.TheVariants as member

-- it joins
unfoldable pub join_in : Data → Result CellAct Flaw
join_in d = do
  zone ← name_given member.Zone d
  tag ← optional_name_in member.Tag d
  totals ← totals_in d
  ttl ← number_given member.Ttl d
  Ok (act.Join zone tag totals ttl)

-- it renews its lease
unfoldable pub renew_in : Data → Result CellAct Flaw
renew_in d = number_given member.Ttl d >>= λ ttl. Ok (act.Renew ttl)

-- the instance that a line names, as a job
unfoldable pub instance_in : Data → Result JobName Flaw
instance_in d = key_said d >>= λ key. Ok (job.Lrp key)

-- the task that a line names, as a job
unfoldable pub task_job_in : Data → Result JobName Flaw
task_job_in d = name_given member.Name d >>= λ name. Ok (job.Task name)

-- it makes room for this job
unfoldable pub claim_for : JobName → Data → Result CellAct Flaw
claim_for job d = do
  memory ← number_given member.Memory d
  disk ← number_given member.Disk d
  Ok (act.Claim job memory disk)

-- it makes room for an instance
unfoldable pub claim_instance_in : Data → Result CellAct Flaw
claim_instance_in d = instance_in d >>= λ job. claim_for job d

-- it makes room for a task
unfoldable pub claim_task_in : Data → Result CellAct Flaw
claim_task_in d = task_job_in d >>= λ job. claim_for job d

-- it makes room for an instance and runs it
unfoldable pub run_in : Data → Result CellAct Flaw
run_in d = do
  key ← key_said d
  memory ← number_given member.Memory d
  disk ← number_given member.Disk d
  Ok (act.Run key memory disk)

-- it runs what it has made room for, of one instance
unfoldable pub up_instance_in : Data → Result CellAct Flaw
up_instance_in d = instance_in d >>= λ job. Ok (act.Up (Some job))

-- it runs what it has made room for, of one task
unfoldable pub up_task_in : Data → Result CellAct Flaw
up_task_in d = task_job_in d >>= λ job. Ok (act.Up (Some job))

-- an instance ended by itself
unfoldable pub crash_in : Data → Result CellAct Flaw
crash_in d = key_said d >>= λ key. Ok (act.Crash key)

-- a task ended
unfoldable pub finish_in : Data → Result CellAct Flaw
finish_in d = do
  name ← name_given member.Name d
  failed ← failed_in d
  Ok (act.Finish name failed)

-- an act of a cell that its rep does by itself
abbrev pub as_act : Result CellAct Flaw → Result Act Flaw
as_act done = done >>= λ a. Ok (Cell a)

-- what a cell does
abbrev pub done_in : CellOp → Data → Result Act Flaw
done_in cell.Join d = as_act (join_in d)
done_in cell.Renew d = as_act (renew_in d)
done_in cell.ClaimInstance d = as_act (claim_instance_in d)
done_in cell.ClaimTask d = as_act (claim_task_in d)
done_in cell.Run d = as_act (run_in d)
done_in cell.UpAll d = Ok (Cell (act.Up None))
done_in cell.UpInstance d = as_act (up_instance_in d)
done_in cell.UpTask d = as_act (up_task_in d)
done_in cell.Crash d = as_act (crash_in d)
done_in cell.Finish d = as_act (finish_in d)
done_in cell.Settle d = Ok (Cell act.Settle)
done_in cell.Evacuate d = Ok Evacuate
done_in cell.Die d = Ok (Cell act.Die)
