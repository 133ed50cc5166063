-- A loss, with the cells that hold instances before it and with it.
use Rattle.std.specs.Prelude.{[]}
use Rattle.what_if.specs.Holders.{IsHolders}
use Rattle.what_if.specs.Stays.{stays}
use Rattle.what_if.specs.declared.planning.Scene.{Scene}

-- the holders are those of the site, and those with the cells lost
pub record IsScene (s : Scene) : Type 0 where
  pub before : IsHolders (stays s.site.now []) s.before.now
  pub after : IsHolders (stays s.site.now s.lost.now) s.after.now
