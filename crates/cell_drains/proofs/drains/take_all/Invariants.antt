use Rattle.std.proofs.Common.{◌≡◌, ◌+◌, ◌++◌, drop}
use Rattle.cell_drains.specs.Courses.{IsReady}
use Rattle.cell_drains.specs.Drains.{jobs_moved, site_then, steps_from}
use Rattle.cell_drains.proofs.drains.take_all.Given as goal

abbrev pub invariant-loop-at : goal.invariant-loop-at
invariant-loop-at l = record {
  steps : l.course.steps ++ steps_from (l.at + 1) l.course.site (drop l.at l.batches)
      ≡ steps_from 1 l.fn.site l.batches;
  moved : l.course.moved.items ++ jobs_moved l.course.site (drop l.at l.batches) ≡ jobs_moved l.fn.site l.batches;
  site : site_then l.course.site (drop l.at l.batches) ≡ site_then l.fn.site l.batches;
  ready : IsReady l.course.site;
}
