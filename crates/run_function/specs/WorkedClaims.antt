-- Scenarios of claims and tasks that were worked out by hand, with all that they print on an empty board.
use Rattle.std.specs.Prelude.{[], ◌∷◌, codes, false, Some, None}
use Rattle.bbs_model.specs.declared.command.Op.TheVariants as op
use Rattle.cell_rep.specs.declared.cell_act.CellAct.TheVariants as cell
use Rattle.scenario_lines.specs.declared.act.Act.TheVariants as act
use Rattle.scenario_lines.specs.declared.act.Loss.TheVariants as loss
use Rattle.scenario_lines.specs.declared.script.Script.{Script}
use Rattle.run_function.specs.Examples.{PrintsPieces, cell_named, claim, client_named, desire_act, join_act, line, lines_at, one_line, round_at, run, task_act}

-- a claim that is lost on the way
abbrev pub lost_claim : Script
lost_claim = record {
  actors = cell_named (codes "c1") ∷ [];
  phases =
      one_line 0 2 1 (join_act (codes "z1") 600)
      ∷ lines_at 1 (line 4 1 (claim 64) (Some loss.Call) 1 ∷ [])
      ∷ round_at 2 6
      ∷ [];
}

-- what is printed of it
abbrev pub LostClaim : Type 0
LostClaim = PrintsPieces lost_claim (
    codes "{\"actor\":\"c1\",\"answer\":\"ok\",\"call\":\"join\",\"line\":2,\"subject\":\"c1\"}\n"
    ∷ codes "{\"event\":\"created\",\"row\":{\"cell\":\"c1\",\"containers\":10,\"disk\":4096,\"epoch\":0,"
    ∷ codes "\"evacuating\":false,\"memory\":1024,\"tag\":null,\"until\":600,\"zone\":\"z1\"},\"table\":\"cell\"}\n"
    ∷ codes "{\"actor\":\"c1\",\"answer\":\"lost call\",\"call\":\"claim\",\"line\":4,\"subject\":\"web/0\"}\n"
    ∷ codes "{\"asked\":1,\"complete\":true,\"foreign\":0,\"line\":6,\"lost\":0,\"op\":\"round\",\"own\":0,"
    ∷ codes "\"refused\":0,\"stopped\":1,\"unplaced\":[]}\n"
    ∷ codes "{\"done\":1,\"doubts\":0,\"next\":1,\"phases\":3}\n"
    ∷ [])

-- a process that fits no cell; a claim whose reply is lost, once more; the claim of another cell; that cell runs it
abbrev pub takeover : Script
takeover = record {
  actors = cell_named (codes "c1") ∷ cell_named (codes "c2") ∷ client_named (codes "cli") ∷ [];
  phases =
      one_line 0 2 1 (join_act (codes "z1") 600)
      ∷ one_line 0 4 2 (join_act (codes "z2") 600)
      ∷ one_line 0 6 3 (desire_act 1 (Some (codes "gpu")))
      ∷ round_at 1 8
      ∷ lines_at 2 (line 10 1 (claim 128) (Some loss.Reply) 2 ∷ [])
      ∷ one_line 3 12 2 (claim 128)
      ∷ one_line 4 14 2 (run 128)
      ∷ round_at 5 16
      ∷ [];
}

-- what is printed of it
abbrev pub Takeover : Type 0
Takeover = PrintsPieces takeover (
    codes "{\"actor\":\"c1\",\"answer\":\"ok\",\"call\":\"join\",\"line\":2,\"subject\":\"c1\"}\n"
    ∷ codes "{\"event\":\"created\",\"row\":{\"cell\":\"c1\",\"containers\":10,\"disk\":4096,\"epoch\":0,"
    ∷ codes "\"evacuating\":false,\"memory\":1024,\"tag\":null,\"until\":600,\"zone\":\"z1\"},\"table\":\"cell\"}\n"
    ∷ codes "{\"actor\":\"c2\",\"answer\":\"ok\",\"call\":\"join\",\"line\":4,\"subject\":\"c2\"}\n"
    ∷ codes "{\"event\":\"created\",\"row\":{\"cell\":\"c2\",\"containers\":10,\"disk\":4096,\"epoch\":1,"
    ∷ codes "\"evacuating\":false,\"memory\":1024,\"tag\":null,\"until\":600,\"zone\":\"z2\"},\"table\":\"cell\"}\n"
    ∷ codes "{\"actor\":\"cli\",\"answer\":\"ok\",\"call\":\"desire\",\"line\":6,\"subject\":\"web\"}\n"
    ∷ codes "{\"event\":\"created\",\"row\":{\"disk\":128,\"domain\":\"apps\",\"instances\":1,\"memory\":64,"
    ∷ codes "\"port\":8080,\"process\":\"web\",\"route\":null,\"tag\":\"gpu\"},\"table\":\"desired\"}\n"
    ∷ codes "{\"asked\":2,\"complete\":false,\"foreign\":0,\"line\":8,\"lost\":0,\"op\":\"round\",\"own\":2,"
    ∷ codes "\"refused\":0,\"stopped\":0,\"unplaced\":[\"web/0\"]}\n"
    ∷ codes "{\"event\":\"created\",\"row\":{\"cell\":null,\"count\":0,\"error\":false,\"index\":0,"
    ∷ codes "\"instance\":null,\"presence\":\"ordinary\",\"process\":\"web\",\"since\":1,"
    ∷ codes "\"state\":\"unclaimed\"},\"table\":\"actual\"}\n"
    ∷ codes "{\"event\":\"changed\",\"row\":{\"cell\":null,\"count\":0,\"error\":true,\"index\":0,"
    ∷ codes "\"instance\":null,\"presence\":\"ordinary\",\"process\":\"web\",\"since\":1,"
    ∷ codes "\"state\":\"unclaimed\"},\"table\":\"actual\"}\n"
    ∷ codes "{\"actor\":\"c1\",\"answer\":\"lost reply\",\"call\":\"claim\",\"line\":10,\"subject\":\"web/0\"}\n"
    ∷ codes "{\"actor\":\"c1\",\"answer\":\"same\",\"call\":\"claim\",\"line\":10,\"subject\":\"web/0\"}\n"
    ∷ codes "{\"event\":\"changed\",\"row\":{\"cell\":\"c1\",\"count\":0,\"error\":false,\"index\":0,"
    ∷ codes "\"instance\":\"0.1\",\"presence\":\"ordinary\",\"process\":\"web\",\"since\":2,\"state\":\"claimed\"},"
    ∷ codes "\"table\":\"actual\"}\n"
    ∷ codes "{\"actor\":\"c2\",\"answer\":\"refused\",\"call\":\"claim\",\"line\":12,\"subject\":\"web/0\","
    ∷ codes "\"why\":\"held 0.1\"}\n"
    ∷ codes "{\"actor\":\"c2\",\"answer\":\"ok\",\"call\":\"start\",\"line\":14,\"subject\":\"web/0\"}\n"
    ∷ codes "{\"event\":\"changed\",\"row\":{\"cell\":\"c2\",\"count\":0,\"error\":false,\"index\":0,"
    ∷ codes "\"instance\":\"1.2\",\"presence\":\"ordinary\",\"process\":\"web\",\"since\":4,\"state\":\"running\"},"
    ∷ codes "\"table\":\"actual\"}\n"
    ∷ codes "{\"asked\":2,\"complete\":true,\"foreign\":0,\"line\":16,\"lost\":0,\"op\":\"round\",\"own\":0,"
    ∷ codes "\"refused\":0,\"stopped\":1,\"unplaced\":[]}\n"
    ∷ codes "{\"done\":7,\"doubts\":0,\"next\":7,\"phases\":8}\n"
    ∷ [])

-- a task that finishes twice, the first time without a reply, and another one of its name
abbrev pub one_task : Script
one_task = record {
  actors = cell_named (codes "c1") ∷ client_named (codes "cli") ∷ [];
  phases =
      one_line 0 2 1 (join_act (codes "z1") 600)
      ∷ one_line 0 4 2 (task_act (codes "job"))
      ∷ round_at 1 6
      ∷ lines_at 9 (line 8 1 (act.Cell (cell.Finish (codes "job") false)) (Some loss.Reply) 2 ∷ [])
      ∷ lines_at 10 (
      line 10 2 (act.Client (op.ResolveTask (codes "job"))) None 1
      ∷ line 11 2 (act.Client (op.DeleteTask (codes "job"))) None 1
      ∷ line 12 2 (task_act (codes "job")) None 1
      ∷ [])
      ∷ [];
}

-- what is printed of it
abbrev pub OneTask : Type 0
OneTask = PrintsPieces one_task (
    codes "{\"actor\":\"c1\",\"answer\":\"ok\",\"call\":\"join\",\"line\":2,\"subject\":\"c1\"}\n"
    ∷ codes "{\"event\":\"created\",\"row\":{\"cell\":\"c1\",\"containers\":10,\"disk\":4096,\"epoch\":0,"
    ∷ codes "\"evacuating\":false,\"memory\":1024,\"tag\":null,\"until\":600,\"zone\":\"z1\"},\"table\":\"cell\"}\n"
    ∷ codes "{\"actor\":\"cli\",\"answer\":\"ok\",\"call\":\"task\",\"line\":4,\"subject\":\"job\"}\n"
    ∷ codes "{\"event\":\"created\",\"row\":{\"birth\":1,\"cell\":null,\"disk\":64,\"failed\":null,"
    ∷ codes "\"instance\":null,\"memory\":64,\"name\":\"job\",\"since\":0,\"state\":\"pending\",\"tag\":null},"
    ∷ codes "\"table\":\"task\"}\n"
    ∷ codes "{\"asked\":1,\"complete\":true,\"foreign\":0,\"line\":6,\"lost\":0,\"op\":\"round\",\"own\":1,"
    ∷ codes "\"refused\":0,\"stopped\":0,\"unplaced\":[]}\n"
    ∷ codes "{\"event\":\"changed\",\"row\":{\"birth\":1,\"cell\":\"c1\",\"disk\":64,\"failed\":null,"
    ∷ codes "\"instance\":\"0.1\",\"memory\":64,\"name\":\"job\",\"since\":1,\"state\":\"running\",\"tag\":null},"
    ∷ codes "\"table\":\"task\"}\n"
    ∷ codes "{\"actor\":\"c1\",\"answer\":\"lost reply\",\"call\":\"completetask\",\"line\":8,\"subject\":\"job\"}\n"
    ∷ codes "{\"actor\":\"c1\",\"answer\":\"refused\",\"call\":\"completetask\",\"line\":8,\"subject\":\"job\","
    ∷ codes "\"why\":\"wrong state completed\"}\n"
    ∷ codes "{\"event\":\"changed\",\"row\":{\"birth\":1,\"cell\":null,\"disk\":64,\"failed\":false,"
    ∷ codes "\"instance\":null,\"memory\":64,\"name\":\"job\",\"since\":9,\"state\":\"completed\",\"tag\":null},"
    ∷ codes "\"table\":\"task\"}\n"
    ∷ codes "{\"actor\":\"cli\",\"answer\":\"ok\",\"call\":\"resolve\",\"line\":10,\"subject\":\"job\"}\n"
    ∷ codes "{\"actor\":\"cli\",\"answer\":\"ok\",\"call\":\"delete\",\"line\":11,\"subject\":\"job\"}\n"
    ∷ codes "{\"actor\":\"cli\",\"answer\":\"ok\",\"call\":\"task\",\"line\":12,\"subject\":\"job\"}\n"
    ∷ codes "{\"event\":\"changed\",\"row\":{\"birth\":1,\"cell\":null,\"disk\":64,\"failed\":false,"
    ∷ codes "\"instance\":null,\"memory\":64,\"name\":\"job\",\"since\":10,\"state\":\"resolving\",\"tag\":null},"
    ∷ codes "\"table\":\"task\"}\n"
    ∷ codes "{\"event\":\"removed\",\"row\":{\"birth\":1,\"cell\":null,\"disk\":64,\"failed\":false,"
    ∷ codes "\"instance\":null,\"memory\":64,\"name\":\"job\",\"since\":10,\"state\":\"resolving\",\"tag\":null},"
    ∷ codes "\"table\":\"task\"}\n"
    ∷ codes "{\"event\":\"created\",\"row\":{\"birth\":6,\"cell\":null,\"disk\":64,\"failed\":null,"
    ∷ codes "\"instance\":null,\"memory\":64,\"name\":\"job\",\"since\":10,\"state\":\"pending\",\"tag\":null},"
    ∷ codes "\"table\":\"task\"}\n"
    ∷ codes "{\"done\":7,\"doubts\":0,\"next\":7,\"phases\":5}\n"
    ∷ [])
