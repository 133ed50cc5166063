use Rattle.std.proofs.Common.{◌≡◌, ℕ, ◌<◌, Some}
use Rattle.std.specs.Prelude.{nat_eq}
use Rattle.watch_lists.specs.Endings.{HasEnded}
use Rattle.watch_lists.specs.Groups.{item_at}
use Rattle.watch_lists.specs.Watched.{Finds}
use Rattle.watch_lists.proofs.endings.Endings.pick_second.Given as goal

abbrev pub invariant-loop-number : goal.invariant-loop-number
invariant-loop-number g l = Finds (HasEnded g.K.PartialEq.eq g.V.Ending.ending l.now l.self.entries)
    (λ k. (i : ℕ) × (i < l.number) × (item_at nat_eq l.self.ends l.second i ≡ Some k))
    l.initial.found.items l.found.items
