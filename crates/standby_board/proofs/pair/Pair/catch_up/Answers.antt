-- Where nothing is missing nothing is done.
use Rattle.std.proofs.Common.{◌≡◌, true, ap, sym, subst, ◌∙◌}
use Rattle.standby_board.specs.Pairs.{PairView}
use Rattle.standby_board.specs.Steps.{CatchesUp}
use Rattle.standby_board.proofs.Chaining.{caught_none}
use Rattle.standby_board.proofs.pair.Pair.catch_up.Goals as goal

pub returns-in-None-clause-catches : goal.returns-in-None-clause-catches
returns-in-None-clause-catches g c =
    let none = sym (ap (λ (v : PairView g.row.D.Denot g.row.E.Denot). v.missing) c.self.view_is) ∙ c.in-None.is in
    caught_none g.E.Disk.moment g.E.Disk.fault_count c.args.self.now.missing c.args.self.now.standby none

pub store_missing-requires : goal.store_missing-requires
store_missing-requires g c = record {
  missing = sym (ap (λ (v : PairView g.row.D.Denot g.row.E.Denot). v.missing) c.self.view_is) ∙ c.in-Some.is;
  room = c.requires;
}
