use Rattle.std.proofs.Common.{◌≡◌, ◌+◌, ◌∷◌, ◌++◌, List, drop, sym, ap, ◌∙◌}
use Rattle.what_if.proofs.Lists.{drop_next}
use Rattle.cell_drains.specs.Drains.{jobs_moved, site_then, steps_from}
use Rattle.cell_drains.specs.declared.batches.Batch.{Batch}
use Rattle.cell_drains.specs.declared.drains.Course.{Course}
use Rattle.cell_drains.proofs.Courses.{moved_next, site_next, steps_next}
use Rattle.cell_drains.proofs.drains.take_all.Goals as goal

pub loop-at-preserved : goal.loop-at-preserved
loop-at-preserved c =
    let bs = c.args.batches.now in
    let at = c.loop-at.at in
    let b = c.index-batches-at.result in
    let old : Course = c.loop-at.course in
    let new : Course = c.take_step.new.course in
    let h = c.in_ok-take_step.ensures in
    let next : drop at bs ≡ b ∷ drop (at + 1) bs = drop_next bs at b c.loop-at-test.true c.index-batches-at.is in
    record {
      steps =
          steps_next old new (at + 1) b h (drop (at + 1) bs)
          ∙ ap (λ (rest : List Batch). old.steps ++ steps_from (at + 1) old.site rest) (sym next)
          ∙ c.loop-at.invariant.steps;
      moved =
          moved_next old new (at + 1) b h (drop (at + 1) bs)
          ∙ ap (λ (rest : List Batch). old.moved.items ++ jobs_moved old.site rest) (sym next)
          ∙ c.loop-at.invariant.moved;
      site =
          site_next old new (at + 1) b h (drop (at + 1) bs)
          ∙ ap (λ (rest : List Batch). site_then old.site rest) (sym next)
          ∙ c.loop-at.invariant.site;
      ready = h.ready;
    }
