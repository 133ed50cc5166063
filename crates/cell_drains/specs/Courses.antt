-- How far a drain has come.
use Rattle.std.specs.Prelude.{◌≡◌, ℕ, List, [], ◌∷◌, ◌++◌}
use Rattle.what_if.specs.Plans.{planned}
use Rattle.what_if.specs.Sites.{IsSite}
use Rattle.what_if.specs.declared.site.Site.{Site}
use Rattle.cell_drains.specs.Drains.{jobs_moved, site_then, step_from, steps_from}
use Rattle.cell_drains.specs.Moves.{placed_in}
use Rattle.cell_drains.specs.Steps.{after_step, IsLevel}
use Rattle.cell_drains.specs.declared.batches.Batch.{Batch}
use Rattle.cell_drains.specs.declared.drains.Course.{Course}

-- a site that may be planned for, and whose steps leave such sites
pub record IsReady (site : Site) : Type 0 where
  pub sound : IsSite site
  pub level : IsLevel site

-- one batch more was emptied, as the step of that number
pub record TakesStep (old : Course) (number : ℕ) (batch : Batch) (new : Course) : Type 0 where
  pub site : new.site ≡ after_step old.site batch.cells
  pub steps : new.steps ≡ old.steps ++ step_from number batch (planned old.site batch.cells) ∷ []
  pub moved : new.moved.items ≡ old.moved.items ++ placed_in (planned old.site batch.cells).placements
  pub ready : IsReady new.site

-- the batches were emptied, one after another
pub record TakesAll (start : Site) (bs : List Batch) (course : Course) : Type 0 where
  pub site : course.site ≡ site_then start bs
  pub steps : course.steps ≡ steps_from 1 start bs
  pub moved : course.moved.items ≡ jobs_moved start bs
  pub ready : IsReady course.site
