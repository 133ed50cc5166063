use Rattle.auctioneer.proofs.Counts.{kept_with_zero, none_from_test}
use Rattle.std.proofs.Common.{sym, ◌∙◌}
use Rattle.auctioneer.proofs.tally.Tally.make_room.Goals as goal

pub returns-in_ok-insert-clause-kept : goal.returns-in_ok-insert-clause-kept
returns-in_ok-insert-clause-kept c =
    kept_with_zero c.args.self.now (record { counts = c.insert.new.self }) c.in-Lrp.key c.args.place.now
    (none_from_test _ (sym c.contains_key.ensures ∙ c.if-not-contains_key.true)) c.in_ok-insert.ensures.updates.0
