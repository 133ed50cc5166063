-- A pair that was just started stands.
use Rattle.standby_board.proofs.Turning.{stands_started}
use Rattle.standby_board.proofs.starting.paired.Goals as goal

pub invariant_of-result : goal.invariant_of-result
invariant_of-result g c =
    stands_started g.D.Disk.told g.E.Disk.told c.args.primary c.args.standby c.new.result c.requires.equal
    c.requires.calm c.new.ensures.numbers c.holds.ensures.kept _ _ c.of-primary_start.ensures c.of-standby_start.ensures

pub returns-clause-stands : goal.returns-clause-stands
returns-clause-stands g c =
    stands_started g.D.Disk.told g.E.Disk.told c.args.primary c.args.standby c.new.result c.requires.equal
    c.requires.calm c.new.ensures.numbers c.holds.ensures.kept _ _ c.of-primary_start.ensures c.of-standby_start.ensures
