-- What the pair's type says, in the words of its callers.
use Rattle.std.proofs.Common.{subst}
use Rattle.std.specs.Option.{ForSome}
use Rattle.standby_board.specs.Images.{StandbyShows}
use Rattle.standby_board.specs.Pairs.{PairView, FollowsRows, IsKeptBoard, StandsPaired}
use Rattle.standby_board.proofs.Showing.{follows_rows, standby_shows}
use Rattle.standby_board.proofs.pair.Pair.holds.Goals as goal

pub returns-clause-stands : goal.returns-clause-stands
returns-clause-stands g c =
    subst (λ (v : PairView g.row.D.Denot g.row.E.Denot). StandsPaired g.D.Disk.told g.E.Disk.told v) c.self.view_is
    c.self.invariant

pub returns-clause-rows : goal.returns-clause-rows
returns-clause-rows g c =
    subst (λ (v : PairView g.row.D.Denot g.row.E.Denot). FollowsRows v) c.self.view_is
    (follows_rows g.D.Disk.told g.E.Disk.told g.E.Disk.moment g.met.E.Disk.timed _ c.self.invariant)

pub returns-clause-shows : goal.returns-clause-shows
returns-clause-shows g c =
    subst (λ (v : PairView g.row.D.Denot g.row.E.Denot). ForSome (g.E.Disk.told v.standby.disk)
    (StandbyShows (g.E.Disk.moment v.standby_start.disk) v)) c.self.view_is
    (standby_shows g.D.Disk.told g.E.Disk.told g.E.Disk.moment g.met.E.Disk.timed _ c.self.invariant
    c.holds-2.ensures.kept)

pub returns-clause-primary : goal.returns-clause-primary
returns-clause-primary g c =
    let h = c.holds.ensures in
    subst (λ (v : PairView g.row.D.Denot g.row.E.Denot). IsKeptBoard g.D.Disk.told g.D.Disk.fault_count v.primary)
    c.self.view_is (record { valid = h.lawful.0; lawful = h.lawful.1; kept = h.kept; doubts = h.doubts })

pub returns-clause-standby : goal.returns-clause-standby
returns-clause-standby g c =
    let h = c.holds-2.ensures in
    subst (λ (v : PairView g.row.D.Denot g.row.E.Denot). IsKeptBoard g.E.Disk.told g.E.Disk.fault_count v.standby)
    c.self.view_is (record { valid = h.lawful.0; lawful = h.lawful.1; kept = h.kept; doubts = h.doubts })
