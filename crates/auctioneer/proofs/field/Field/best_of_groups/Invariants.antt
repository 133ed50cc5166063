use Rattle.std.proofs.Common.{◌<◌}
use Rattle.auctioneer.specs.Fields.{IsBestOf}
use Rattle.auctioneer.proofs.field.Field.best_of_groups.Given as goal

abbrev pub invariant-loop-group : goal.invariant-loop-group
invariant-loop-group l = IsBestOf l.self.stands.items l.spots.all.items l.job (λ p. p.group < l.group) l.best
