use Rattle.std.proofs.Common.{inl, inr, sym, ap, subst, ◌∙◌, arith}
use Rattle.bbs_board.specs.View.{View}
use Rattle.standby_board.specs.Pairs.{PairView}
use Rattle.pair_top.specs.TakeOvers.{Starves}
use Rattle.pair_top.proofs.handing.hand_over.Goals as goal

pub run_alone-requires-clause-shown : goal.run_alone-requires-clause-shown
run_alone-requires-clause-shown g c = omega (arith, c.in-Ok-take_over.ensures.board.fence.greatest)

pub run_alone-requires-clause-log : goal.run_alone-requires-clause-log
run_alone-requires-clause-log g c =
    ap (λ (b : View g.row.E.Denot). b.log) c.in-Ok-take_over.ensures.board.board_is ∙ c.requires.copy

pub run_alone-requires-clause-start : goal.run_alone-requires-clause-start
run_alone-requires-clause-start g c =
    c.requires.start.1 ∙ ap (λ (b : View g.row.E.Denot). b.base.next) (sym c.in-Ok-take_over.ensures.board.board_is)

pub returns-in-Ok-take_over : goal.returns-in-Ok-take_over
returns-in-Ok-take_over g c =
    let e = c.run_alone.ensures.runs in (
      e.0,
      e.1,
      inl (record {
        number = c.in-Ok.next;
        board = c.in-Ok-take_over.taken.board;
        taken = c.in-Ok-take_over.ensures.board;
        runs = e.2;
        stands = c.holds.ensures.stands;
        kept = c.holds.ensures.primary;
        primary_is = c.run_alone.ensures.primary ∙ c.in-Ok-take_over.ensures.old.0;
      }),
    )

pub returns-in_default : goal.returns-in_default
returns-in_default g c = let e = c.starved.ensures in (e.0, e.1, inr e.2)

pub returns : goal.returns
returns g c =
    let e = c.starved-in-Err.ensures in (
      e.0,
      e.1,
      inr (subst (λ (p : PairView g.row.D.Denot g.row.E.Denot). Starves g.D.Disk.told g.D.Disk.fault_count g.E.Disk.told
          g.E.Disk.fault_count g.E.Disk.moment p c.args.account.answers c.starved-in-Err.result.account.answers e.0
          (g.K.Sink.held c.args.sink.now) (g.K.Sink.held c.starved-in-Err.new.sink)
          (g.K.Sink.faults c.args.sink.now) (g.K.Sink.faults c.starved-in-Err.new.sink)
          c.starved-in-Err.result.primary c.starved-in-Err.result.standby) c.in-Err.ensures.stale.0 e.2),
    )
