-- Scenarios of evacuations that were worked out by hand, with all that they print on an empty board.
use Rattle.std.specs.Prelude.{[], ◌∷◌, codes, None}
use Rattle.cell_rep.specs.declared.cell_act.CellAct.TheVariants as cell
use Rattle.scenario_lines.specs.declared.act.Act.TheVariants as act
use Rattle.scenario_lines.specs.declared.script.Script.{Script}
use Rattle.run_function.specs.Examples.{PrintsPieces, cell_named, client_named, desire_act, join_act, one_line, round_at}

-- a cell without containers is emptied, twice
abbrev pub nothing_to_move : Script
nothing_to_move = record {
  actors = cell_named (codes "c1") ∷ [];
  phases =
      one_line 0 2 1 (join_act (codes "z1") 600)
      ∷ one_line 1 4 1 act.Evacuate
      ∷ one_line 2 6 1 act.Evacuate
      ∷ [];
}

-- what is printed of it
abbrev pub NothingToMove : Type 0
NothingToMove = PrintsPieces nothing_to_move (
    codes "{\"actor\":\"c1\",\"answer\":\"ok\",\"call\":\"join\",\"line\":2,\"subject\":\"c1\"}\n"
    ∷ codes "{\"event\":\"created\",\"row\":{\"cell\":\"c1\",\"containers\":10,\"disk\":4096,\"epoch\":0,"
    ∷ codes "\"evacuating\":false,\"memory\":1024,\"tag\":null,\"until\":600,\"zone\":\"z1\"},\"table\":\"cell\"}\n"
    ∷ codes "{\"actor\":\"c1\",\"answer\":\"ok\",\"call\":\"drain\",\"line\":4,\"subject\":\"c1\"}\n"
    ∷ codes "{\"actor\":\"c1\",\"answer\":\"none\",\"call\":\"evacuate\",\"line\":4,\"subject\":\"c1\"}\n"
    ∷ codes "{\"event\":\"changed\",\"row\":{\"cell\":\"c1\",\"containers\":10,\"disk\":4096,\"epoch\":0,"
    ∷ codes "\"evacuating\":true,\"memory\":1024,\"tag\":null,\"until\":600,\"zone\":\"z1\"},\"table\":\"cell\"}\n"
    ∷ codes "{\"actor\":\"c1\",\"answer\":\"same\",\"call\":\"drain\",\"line\":6,\"subject\":\"c1\"}\n"
    ∷ codes "{\"actor\":\"c1\",\"answer\":\"none\",\"call\":\"evacuate\",\"line\":6,\"subject\":\"c1\"}\n"
    ∷ codes "{\"done\":2,\"doubts\":0,\"next\":2,\"phases\":3}\n"
    ∷ [])

-- a cell is emptied before there is another one
abbrev pub evacuation : Script
evacuation = record {
  actors = cell_named (codes "c1") ∷ client_named (codes "cli") ∷ cell_named (codes "c2") ∷ [];
  phases =
      one_line 0 2 1 (join_act (codes "z1") 600)
      ∷ one_line 0 4 2 (desire_act 1 None)
      ∷ round_at 1 6
      ∷ one_line 2 8 1 (act.Cell (cell.Up None))
      ∷ one_line 3 10 1 act.Evacuate
      ∷ round_at 4 12
      ∷ one_line 5 14 3 (join_act (codes "z2") 600)
      ∷ round_at 6 16
      ∷ one_line 7 18 3 (act.Cell (cell.Up None))
      ∷ round_at 8 20
      ∷ [];
}

-- what is printed of it
abbrev pub Evacuation : Type 0
Evacuation = PrintsPieces evacuation (
    codes "{\"actor\":\"c1\",\"answer\":\"ok\",\"call\":\"join\",\"line\":2,\"subject\":\"c1\"}\n"
    ∷ codes "{\"event\":\"created\",\"row\":{\"cell\":\"c1\",\"containers\":10,\"disk\":4096,\"epoch\":0,"
    ∷ codes "\"evacuating\":false,\"memory\":1024,\"tag\":null,\"until\":600,\"zone\":\"z1\"},\"table\":\"cell\"}\n"
    ∷ codes "{\"actor\":\"cli\",\"answer\":\"ok\",\"call\":\"desire\",\"line\":4,\"subject\":\"web\"}\n"
    ∷ codes "{\"event\":\"created\",\"row\":{\"disk\":128,\"domain\":\"apps\",\"instances\":1,\"memory\":64,"
    ∷ codes "\"port\":8080,\"process\":\"web\",\"route\":null,\"tag\":null},\"table\":\"desired\"}\n"
    ∷ codes "{\"asked\":1,\"complete\":true,\"foreign\":0,\"line\":6,\"lost\":0,\"op\":\"round\",\"own\":2,"
    ∷ codes "\"refused\":0,\"stopped\":0,\"unplaced\":[]}\n"
    ∷ codes "{\"event\":\"created\",\"row\":{\"cell\":null,\"count\":0,\"error\":false,\"index\":0,"
    ∷ codes "\"instance\":null,\"presence\":\"ordinary\",\"process\":\"web\",\"since\":1,"
    ∷ codes "\"state\":\"unclaimed\"},\"table\":\"actual\"}\n"
    ∷ codes "{\"event\":\"changed\",\"row\":{\"cell\":\"c1\",\"count\":0,\"error\":false,\"index\":0,"
    ∷ codes "\"instance\":\"0.1\",\"presence\":\"ordinary\",\"process\":\"web\",\"since\":1,\"state\":\"claimed\"},"
    ∷ codes "\"table\":\"actual\"}\n"
    ∷ codes "{\"actor\":\"c1\",\"answer\":\"ok\",\"call\":\"start\",\"line\":8,\"subject\":\"web/0\"}\n"
    ∷ codes "{\"event\":\"changed\",\"row\":{\"cell\":\"c1\",\"count\":0,\"error\":false,\"index\":0,"
    ∷ codes "\"instance\":\"0.1\",\"presence\":\"ordinary\",\"process\":\"web\",\"since\":2,\"state\":\"running\"},"
    ∷ codes "\"table\":\"actual\"}\n"
    ∷ codes "{\"actor\":\"c1\",\"answer\":\"ok\",\"call\":\"drain\",\"line\":10,\"subject\":\"c1\"}\n"
    ∷ codes "{\"actor\":\"c1\",\"answer\":\"ok\",\"call\":\"evacuate\",\"line\":10,\"subject\":\"web/0\"}\n"
    ∷ codes "{\"event\":\"changed\",\"row\":{\"cell\":null,\"count\":0,\"error\":false,\"index\":0,"
    ∷ codes "\"instance\":null,\"presence\":\"ordinary\",\"process\":\"web\",\"since\":3,"
    ∷ codes "\"state\":\"unclaimed\"},\"table\":\"actual\"}\n"
    ∷ codes "{\"event\":\"created\",\"row\":{\"cell\":\"c1\",\"count\":0,\"error\":false,\"index\":0,"
    ∷ codes "\"instance\":\"0.1\",\"presence\":\"evacuating\",\"process\":\"web\",\"since\":2,"
    ∷ codes "\"state\":\"running\"},\"table\":\"actual\"}\n"
    ∷ codes "{\"event\":\"changed\",\"row\":{\"cell\":\"c1\",\"containers\":10,\"disk\":4096,\"epoch\":0,"
    ∷ codes "\"evacuating\":true,\"memory\":1024,\"tag\":null,\"until\":600,\"zone\":\"z1\"},\"table\":\"cell\"}\n"
    ∷ codes "{\"asked\":1,\"complete\":false,\"foreign\":0,\"line\":12,\"lost\":0,\"op\":\"round\",\"own\":1,"
    ∷ codes "\"refused\":0,\"stopped\":0,\"unplaced\":[\"web/0\"]}\n"
    ∷ codes "{\"event\":\"changed\",\"row\":{\"cell\":null,\"count\":0,\"error\":true,\"index\":0,"
    ∷ codes "\"instance\":null,\"presence\":\"ordinary\",\"process\":\"web\",\"since\":3,"
    ∷ codes "\"state\":\"unclaimed\"},\"table\":\"actual\"}\n"
    ∷ codes "{\"actor\":\"c2\",\"answer\":\"ok\",\"call\":\"join\",\"line\":14,\"subject\":\"c2\"}\n"
    ∷ codes "{\"event\":\"created\",\"row\":{\"cell\":\"c2\",\"containers\":10,\"disk\":4096,\"epoch\":8,"
    ∷ codes "\"evacuating\":false,\"memory\":1024,\"tag\":null,\"until\":605,\"zone\":\"z2\"},\"table\":\"cell\"}\n"
    ∷ codes "{\"asked\":2,\"complete\":true,\"foreign\":0,\"line\":16,\"lost\":0,\"op\":\"round\",\"own\":1,"
    ∷ codes "\"refused\":0,\"stopped\":0,\"unplaced\":[]}\n"
    ∷ codes "{\"event\":\"changed\",\"row\":{\"cell\":\"c2\",\"count\":0,\"error\":false,\"index\":0,"
    ∷ codes "\"instance\":\"8.1\",\"presence\":\"ordinary\",\"process\":\"web\",\"since\":6,\"state\":\"claimed\"},"
    ∷ codes "\"table\":\"actual\"}\n"
    ∷ codes "{\"actor\":\"c2\",\"answer\":\"ok\",\"call\":\"start\",\"line\":18,\"subject\":\"web/0\"}\n"
    ∷ codes "{\"event\":\"changed\",\"row\":{\"cell\":\"c2\",\"count\":0,\"error\":false,\"index\":0,"
    ∷ codes "\"instance\":\"8.1\",\"presence\":\"ordinary\",\"process\":\"web\",\"since\":7,\"state\":\"running\"},"
    ∷ codes "\"table\":\"actual\"}\n"
    ∷ codes "{\"asked\":2,\"complete\":true,\"foreign\":0,\"line\":20,\"lost\":0,\"op\":\"round\",\"own\":1,"
    ∷ codes "\"refused\":0,\"stopped\":1,\"unplaced\":[]}\n"
    ∷ codes "{\"event\":\"removed\",\"row\":{\"cell\":\"c1\",\"count\":0,\"error\":false,\"index\":0,"
    ∷ codes "\"instance\":\"0.1\",\"presence\":\"evacuating\",\"process\":\"web\",\"since\":2,"
    ∷ codes "\"state\":\"running\"},\"table\":\"actual\"}\n"
    ∷ codes "{\"done\":12,\"doubts\":0,\"next\":12,\"phases\":10}\n"
    ∷ [])
