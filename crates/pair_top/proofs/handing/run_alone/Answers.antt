use Rattle.std.proofs.Common.{refl, ◌-◌, ◌^◌, arith}
use Rattle.pair_top.proofs.AloneRuns.{fits_alone, runs_alone}
use Rattle.pair_top.proofs.handing.run_alone.Goals as goal

pub finish-ending-requires : goal.finish-ending-requires
finish-ending-requires g c =
    let r = c.run_phases-ended in
    let closed = c.close.ensures.lawful in
    record {
      fits = fits_alone g.E.Disk.told g.E.Disk.fault_count c.args.script.now c.args.phases.now c.args.k c.args.start
          c.args.taken.board r.new.server.board c.args.account.answers r.new.account.answers r.result.0 r.result.1
          _ _ _ _ r.ensures.ends c.requires.log c.requires.start r.ensures.keeps.base closed.0 closed.1;
    }

pub returns-clause-runs : goal.returns-clause-runs
returns-clause-runs g c =
    let r = c.run_phases-ended in
    let closed = c.close.ensures in (
      c.finish-ending.result,
      refl,
      runs_alone g.E.Disk.told g.E.Disk.fault_count c.args.script.now c.args.phases.now c.args.k c.args.start
          c.args.taken.board r.new.server.board c.args.account.answers r.new.account.answers r.result.0 r.result.1
          _ _ _ _ r.ensures.ends c.requires.log c.args.fence r.new.server.fence r.ensures.keeps (2 ^ 64 - 1)
          c.saturating_add-ran.result c.requires.later (omega (arith, c.requires.room)) c.saturating_add-ran.ensures
          c.finish-ending.result _ _ c.finish-ending.ensures _ (cc)
          (record {
            valid = closed.lawful.0;
            lawful = closed.lawful.1;
            kept = closed.kept;
            doubts = closed.doubts;
          }),
    )
