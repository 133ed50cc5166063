-- What the call of a pair says, in the words of a desk.
use Rattle.std.proofs.Common.{◌≡◌, ◌++◌, subst}
use Rattle.standby_board.specs.Calls.{gained}
use Rattle.standby_board.specs.Pairs.{PairView}
use Rattle.pair_desk.specs.Standing.{origin_of}
use Rattle.pair_desk.proofs.Calls.{sole_log, sole_origin}
use Rattle.pair_desk.proofs.jobs.call_once.Goals as goal

pub returns-clause-log : goal.returns-clause-log
returns-clause-log g c =
    let e = c.call-end in
    subst (λ (v : PairView g.row.D.Denot g.row.E.Denot).
    e.new.self.primary.log ≡ v.primary.log ++ gained e.result c.args.by c.args.command) c.at.view_is
    (sole_log g.D.Disk.moment g.E.Disk.moment g.D.Disk.fault_count g.E.Disk.fault_count c.args.fence c.args.by
    c.args.command _ e.new.self e.result (record {
      shows = e.ensures.shows;
      idle = e.ensures.idle;
      calls = e.ensures.calls;
      causes = e.ensures.causes;
      same = e.ensures.same;
    }))

pub returns-clause-origin : goal.returns-clause-origin
returns-clause-origin g c =
    let e = c.call-end in
    subst (λ (v : PairView g.row.D.Denot g.row.E.Denot). origin_of e.new.self ≡ origin_of v) c.at.view_is
    (sole_origin g.D.Disk.moment g.E.Disk.moment g.D.Disk.fault_count g.E.Disk.fault_count c.args.fence c.args.by
    c.args.command _ e.new.self e.result (record {
      shows = e.ensures.shows;
      idle = e.ensures.idle;
      calls = e.ensures.calls;
      causes = e.ensures.causes;
      same = e.ensures.same;
    }))
