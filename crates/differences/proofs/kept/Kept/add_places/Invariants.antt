use Rattle.std.proofs.Common.{◌≡◌, ◌++◌, ◌+◌, ◌≤◌, map, take}
use Rattle.std.specs.List.{filter_map}
use Rattle.bbs_model.specs.Work.{at}
use Rattle.differences.specs.Commands.{command_at_place}
use Rattle.differences.specs.Noted.{noted_of}
use Rattle.differences.proofs.kept.Kept.add_places.Given as goal

abbrev pub invariant-loop-place : goal.invariant-loop-place
invariant-loop-place g l = record {
  list : l.list ≡ l.fn.list ++ map (at l.now) (filter_map
      (command_at_place (noted_of l.self) (g.C.CountedRows.rows l.initial.rows) l.now) (take l.place-index l.places));
  keeps : g.C.CountedRows.keeps l.initial.rows l.rows;
  rows : g.C.CountedRows.rows l.rows ≡ g.C.CountedRows.rows l.initial.rows;
  steps : g.C.CountedRows.steps l.rows ≤ g.C.CountedRows.steps l.initial.rows + l.place-index;
}
