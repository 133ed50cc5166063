use Rattle.std.proofs.Common.{◌≡◌}
use Rattle.auctioneer.specs.Fields.{IsFieldOf}
use Rattle.auctioneer.proofs.field.Field.renew_zone.Given as goal

abbrev pub invariant-loop-other : goal.invariant-loop-other
invariant-loop-other l = IsFieldOf l.self × (l.self.stands.items ≡ l.fn.self.stands.items)
