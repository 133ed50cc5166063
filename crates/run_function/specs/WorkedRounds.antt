-- Scenarios of rounds that were worked out by hand, with all that they print on an empty board.
use Rattle.std.specs.Prelude.{[], ◌∷◌, codes, None}
use Rattle.scenario_lines.specs.declared.script.Script.{Script}
use Rattle.run_function.specs.Examples.{PrintsPieces, Writes, cell_named, client_named, desire_act, join_act, line, lines_at, one_line, round_at, round_losing}

-- a desire, twice
abbrev pub same_desire : Script
same_desire = record {
  actors = client_named (codes "cli") ∷ [];
  phases = lines_at 0 (line 2 1 (desire_act 3 None) None 1 ∷ line 3 1 (desire_act 3 None) None 1 ∷ []) ∷ [];
}

-- what is printed of it
abbrev pub SameDesire : Type 0
SameDesire = PrintsPieces same_desire (
    codes "{\"actor\":\"cli\",\"answer\":\"ok\",\"call\":\"desire\",\"line\":2,\"subject\":\"web\"}\n"
    ∷ codes "{\"actor\":\"cli\",\"answer\":\"refused\",\"call\":\"desire\",\"line\":3,\"subject\":\"web\","
    ∷ codes "\"why\":\"exists\"}\n"
    ∷ codes "{\"event\":\"created\",\"row\":{\"disk\":128,\"domain\":\"apps\",\"instances\":3,\"memory\":64,"
    ∷ codes "\"port\":8080,\"process\":\"web\",\"route\":null,\"tag\":null},\"table\":\"desired\"}\n"
    ∷ codes "{\"done\":1,\"doubts\":0,\"next\":1,\"phases\":1}\n"
    ∷ [])

-- two cells, a process of three instances, and a round
abbrev pub three_instances : Script
three_instances = record {
  actors = cell_named (codes "c1") ∷ cell_named (codes "c2") ∷ client_named (codes "cli") ∷ [];
  phases =
      one_line 0 2 1 (join_act (codes "z1") 600)
      ∷ one_line 0 4 2 (join_act (codes "z2") 600)
      ∷ one_line 0 6 3 (desire_act 3 None)
      ∷ round_at 1 8
      ∷ [];
}

-- what is printed of it
abbrev pub ThreeInstances : Type 0
ThreeInstances = PrintsPieces three_instances (
    codes "{\"actor\":\"c1\",\"answer\":\"ok\",\"call\":\"join\",\"line\":2,\"subject\":\"c1\"}\n"
    ∷ codes "{\"event\":\"created\",\"row\":{\"cell\":\"c1\",\"containers\":10,\"disk\":4096,\"epoch\":0,"
    ∷ codes "\"evacuating\":false,\"memory\":1024,\"tag\":null,\"until\":600,\"zone\":\"z1\"},\"table\":\"cell\"}\n"
    ∷ codes "{\"actor\":\"c2\",\"answer\":\"ok\",\"call\":\"join\",\"line\":4,\"subject\":\"c2\"}\n"
    ∷ codes "{\"event\":\"created\",\"row\":{\"cell\":\"c2\",\"containers\":10,\"disk\":4096,\"epoch\":1,"
    ∷ codes "\"evacuating\":false,\"memory\":1024,\"tag\":null,\"until\":600,\"zone\":\"z2\"},\"table\":\"cell\"}\n"
    ∷ codes "{\"actor\":\"cli\",\"answer\":\"ok\",\"call\":\"desire\",\"line\":6,\"subject\":\"web\"}\n"
    ∷ codes "{\"event\":\"created\",\"row\":{\"disk\":128,\"domain\":\"apps\",\"instances\":3,\"memory\":64,"
    ∷ codes "\"port\":8080,\"process\":\"web\",\"route\":null,\"tag\":null},\"table\":\"desired\"}\n"
    ∷ codes "{\"asked\":2,\"complete\":true,\"foreign\":0,\"line\":8,\"lost\":0,\"op\":\"round\",\"own\":6,"
    ∷ codes "\"refused\":0,\"stopped\":0,\"unplaced\":[]}\n"
    ∷ codes "{\"event\":\"created\",\"row\":{\"cell\":null,\"count\":0,\"error\":false,\"index\":0,"
    ∷ codes "\"instance\":null,\"presence\":\"ordinary\",\"process\":\"web\",\"since\":1,"
    ∷ codes "\"state\":\"unclaimed\"},\"table\":\"actual\"}\n"
    ∷ codes "{\"event\":\"changed\",\"row\":{\"cell\":\"c1\",\"count\":0,\"error\":false,\"index\":0,"
    ∷ codes "\"instance\":\"0.1\",\"presence\":\"ordinary\",\"process\":\"web\",\"since\":1,\"state\":\"claimed\"},"
    ∷ codes "\"table\":\"actual\"}\n"
    ∷ codes "{\"event\":\"created\",\"row\":{\"cell\":null,\"count\":0,\"error\":false,\"index\":1,"
    ∷ codes "\"instance\":null,\"presence\":\"ordinary\",\"process\":\"web\",\"since\":1,"
    ∷ codes "\"state\":\"unclaimed\"},\"table\":\"actual\"}\n"
    ∷ codes "{\"event\":\"changed\",\"row\":{\"cell\":\"c2\",\"count\":0,\"error\":false,\"index\":1,"
    ∷ codes "\"instance\":\"1.1\",\"presence\":\"ordinary\",\"process\":\"web\",\"since\":1,\"state\":\"claimed\"},"
    ∷ codes "\"table\":\"actual\"}\n"
    ∷ codes "{\"event\":\"created\",\"row\":{\"cell\":null,\"count\":0,\"error\":false,\"index\":2,"
    ∷ codes "\"instance\":null,\"presence\":\"ordinary\",\"process\":\"web\",\"since\":1,"
    ∷ codes "\"state\":\"unclaimed\"},\"table\":\"actual\"}\n"
    ∷ codes "{\"event\":\"changed\",\"row\":{\"cell\":\"c1\",\"count\":0,\"error\":false,\"index\":2,"
    ∷ codes "\"instance\":\"0.2\",\"presence\":\"ordinary\",\"process\":\"web\",\"since\":1,\"state\":\"claimed\"},"
    ∷ codes "\"table\":\"actual\"}\n"
    ∷ codes "{\"done\":9,\"doubts\":0,\"next\":9,\"phases\":4}\n"
    ∷ [])

-- a round that loses a cell's question, and one behind the end of that cell's lease
abbrev pub ended_lease : Script
ended_lease = record {
  actors = cell_named (codes "c1") ∷ cell_named (codes "c2") ∷ client_named (codes "cli") ∷ [];
  phases =
      one_line 0 2 1 (join_act (codes "z1") 600)
      ∷ one_line 0 4 2 (join_act (codes "z2") 3600)
      ∷ one_line 0 6 3 (desire_act 1 None)
      ∷ round_at 1 8
      ∷ round_losing 10 10 (codes "c1" ∷ [])
      ∷ round_at 600 12
      ∷ [];
}

-- what is printed of it
abbrev pub EndedLease : Type 0
EndedLease = PrintsPieces ended_lease (
    codes "{\"actor\":\"c1\",\"answer\":\"ok\",\"call\":\"join\",\"line\":2,\"subject\":\"c1\"}\n"
    ∷ codes "{\"event\":\"created\",\"row\":{\"cell\":\"c1\",\"containers\":10,\"disk\":4096,\"epoch\":0,"
    ∷ codes "\"evacuating\":false,\"memory\":1024,\"tag\":null,\"until\":600,\"zone\":\"z1\"},\"table\":\"cell\"}\n"
    ∷ codes "{\"actor\":\"c2\",\"answer\":\"ok\",\"call\":\"join\",\"line\":4,\"subject\":\"c2\"}\n"
    ∷ codes "{\"event\":\"created\",\"row\":{\"cell\":\"c2\",\"containers\":10,\"disk\":4096,\"epoch\":1,"
    ∷ codes "\"evacuating\":false,\"memory\":1024,\"tag\":null,\"until\":3600,\"zone\":\"z2\"},\"table\":\"cell\"}\n"
    ∷ codes "{\"actor\":\"cli\",\"answer\":\"ok\",\"call\":\"desire\",\"line\":6,\"subject\":\"web\"}\n"
    ∷ codes "{\"event\":\"created\",\"row\":{\"disk\":128,\"domain\":\"apps\",\"instances\":1,\"memory\":64,"
    ∷ codes "\"port\":8080,\"process\":\"web\",\"route\":null,\"tag\":null},\"table\":\"desired\"}\n"
    ∷ codes "{\"asked\":2,\"complete\":true,\"foreign\":0,\"line\":8,\"lost\":0,\"op\":\"round\",\"own\":2,"
    ∷ codes "\"refused\":0,\"stopped\":0,\"unplaced\":[]}\n"
    ∷ codes "{\"event\":\"created\",\"row\":{\"cell\":null,\"count\":0,\"error\":false,\"index\":0,"
    ∷ codes "\"instance\":null,\"presence\":\"ordinary\",\"process\":\"web\",\"since\":1,"
    ∷ codes "\"state\":\"unclaimed\"},\"table\":\"actual\"}\n"
    ∷ codes "{\"event\":\"changed\",\"row\":{\"cell\":\"c1\",\"count\":0,\"error\":false,\"index\":0,"
    ∷ codes "\"instance\":\"0.1\",\"presence\":\"ordinary\",\"process\":\"web\",\"since\":1,\"state\":\"claimed\"},"
    ∷ codes "\"table\":\"actual\"}\n"
    ∷ codes "{\"asked\":2,\"complete\":false,\"foreign\":0,\"line\":10,\"lost\":1,\"op\":\"round\",\"own\":0,"
    ∷ codes "\"refused\":0,\"stopped\":0,\"unplaced\":[]}\n"
    ∷ codes "{\"asked\":1,\"complete\":true,\"foreign\":0,\"line\":12,\"lost\":0,\"op\":\"round\",\"own\":3,"
    ∷ codes "\"refused\":0,\"stopped\":0,\"unplaced\":[]}\n"
    ∷ codes "{\"event\":\"changed\",\"row\":{\"cell\":null,\"count\":0,\"error\":false,\"index\":0,"
    ∷ codes "\"instance\":null,\"presence\":\"ordinary\",\"process\":\"web\",\"since\":600,"
    ∷ codes "\"state\":\"unclaimed\"},\"table\":\"actual\"}\n"
    ∷ codes "{\"event\":\"changed\",\"row\":{\"cell\":\"c2\",\"count\":0,\"error\":false,\"index\":0,"
    ∷ codes "\"instance\":\"1.1\",\"presence\":\"ordinary\",\"process\":\"web\",\"since\":600,"
    ∷ codes "\"state\":\"claimed\"},\"table\":\"actual\"}\n"
    ∷ codes "{\"event\":\"removed\",\"row\":{\"cell\":\"c1\",\"containers\":10,\"disk\":4096,\"epoch\":0,"
    ∷ codes "\"evacuating\":false,\"memory\":1024,\"tag\":null,\"until\":600,\"zone\":\"z1\"},\"table\":\"cell\"}\n"
    ∷ codes "{\"done\":8,\"doubts\":0,\"next\":8,\"phases\":6}\n"
    ∷ [])

-- what the run with two cells writes: two joins, the desire, and of each instance that it is made and claimed
abbrev pub ThreeInstancesWrite : Type 0
ThreeInstancesWrite = Writes three_instances (
    (22 ∷ 0 ∷ 0 ∷ 0 ∷ 0 ∷ 2 ∷ 99 ∷ 49 ∷ 2 ∷ 122 ∷ 49 ∷ 0 ∷ 0 ∷ 0 ∷ 4 ∷ 0 ∷ 0 ∷ 0 ∷ 16 ∷ 0 ∷ 0 ∷ 0 ∷ 0 ∷
    10 ∷ 0 ∷ 0 ∷ 2 ∷ 88 ∷ [])
    ∷ (22 ∷ 0 ∷ 0 ∷ 0 ∷ 0 ∷ 2 ∷ 99 ∷ 50 ∷ 2 ∷ 122 ∷ 50 ∷ 0 ∷ 0 ∷ 0 ∷ 4 ∷ 0 ∷ 0 ∷ 0 ∷ 16 ∷ 0 ∷ 0 ∷ 0 ∷ 0 ∷
    10 ∷ 0 ∷ 0 ∷ 2 ∷ 88 ∷ [])
    ∷ (1 ∷ 0 ∷ 0 ∷ 0 ∷ 0 ∷ 3 ∷ 119 ∷ 101 ∷ 98 ∷ 4 ∷ 97 ∷ 112 ∷ 112 ∷ 115 ∷ 0 ∷ 0 ∷ 0 ∷ 3 ∷ 0 ∷ 0 ∷ 0 ∷
    64 ∷ 0 ∷ 0 ∷ 0 ∷ 128 ∷ 0 ∷ 0 ∷ 31 ∷ 144 ∷ [])
    ∷ (4 ∷ 0 ∷ 0 ∷ 0 ∷ 1 ∷ 3 ∷ 119 ∷ 101 ∷ 98 ∷ 0 ∷ 0 ∷ 0 ∷ 0 ∷ [])
    ∷ (4 ∷ 0 ∷ 0 ∷ 0 ∷ 1 ∷ 3 ∷ 119 ∷ 101 ∷ 98 ∷ 0 ∷ 0 ∷ 0 ∷ 1 ∷ [])
    ∷ (4 ∷ 0 ∷ 0 ∷ 0 ∷ 1 ∷ 3 ∷ 119 ∷ 101 ∷ 98 ∷ 0 ∷ 0 ∷ 0 ∷ 2 ∷ [])
    ∷ (5 ∷ 0 ∷ 0 ∷ 0 ∷ 1 ∷ 3 ∷ 119 ∷ 101 ∷ 98 ∷ 0 ∷ 0 ∷ 0 ∷ 0 ∷ 0 ∷ 0 ∷ 0 ∷ 0 ∷ 0 ∷ 0 ∷ 0 ∷ 0 ∷ 0 ∷ 0 ∷
    0 ∷ 1 ∷ 2 ∷ 99 ∷ 49 ∷ [])
    ∷ (5 ∷ 0 ∷ 0 ∷ 0 ∷ 1 ∷ 3 ∷ 119 ∷ 101 ∷ 98 ∷ 0 ∷ 0 ∷ 0 ∷ 2 ∷ 0 ∷ 0 ∷ 0 ∷ 0 ∷ 0 ∷ 0 ∷ 0 ∷ 0 ∷ 0 ∷ 0 ∷
    0 ∷ 2 ∷ 2 ∷ 99 ∷ 49 ∷ [])
    ∷ (5 ∷ 0 ∷ 0 ∷ 0 ∷ 1 ∷ 3 ∷ 119 ∷ 101 ∷ 98 ∷ 0 ∷ 0 ∷ 0 ∷ 1 ∷ 0 ∷ 0 ∷ 0 ∷ 0 ∷ 0 ∷ 0 ∷ 0 ∷ 1 ∷ 0 ∷ 0 ∷
    0 ∷ 1 ∷ 2 ∷ 99 ∷ 50 ∷ [])
    ∷ [])
