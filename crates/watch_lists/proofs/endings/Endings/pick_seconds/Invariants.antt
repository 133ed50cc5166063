use Rattle.std.proofs.Common.{◌≡◌, ℕ, true, take}
use Rattle.std.specs.Prelude.{nat_eq}
use Rattle.std.specs.List.{Contains}
use Rattle.watch_lists.specs.Endings.{HasEnded}
use Rattle.watch_lists.specs.Groups.{is_in}
use Rattle.watch_lists.specs.Watched.{Finds}
use Rattle.watch_lists.proofs.endings.Endings.pick_seconds.Given as goal

abbrev pub invariant-loop-second : goal.invariant-loop-second
invariant-loop-second g l = Finds (HasEnded g.K.PartialEq.eq g.V.Ending.ending l.now l.self.entries)
    (λ k. (m : ℕ) × Contains (take l.second-index l.seconds) m × (is_in nat_eq g.K.PartialEq.eq l.self.ends m k ≡ true))
    l.initial.found.items l.found.items
