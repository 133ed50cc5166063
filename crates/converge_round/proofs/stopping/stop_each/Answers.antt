use Rattle.std.proofs.Common.{ap}
use Rattle.converge_round.specs.Stops.{StopsOne, so_far}
use Rattle.converge_round.proofs.Eachs.{each-more}
use Rattle.converge_round.proofs.RepLaws.{keep-same, keep-then, index-kept}
use Rattle.converge_round.proofs.stopping.stop_each.Goals as goal

pub loop-stray-init : goal.loop-stray-init
loop-stray-init g c = record {
  index = c.requires;
  cells = keep-same c.args.cells.now;
  stops =
      ap (so_far _) c.new-stopped.ensures;
}

pub loop-stray-preserved : goal.loop-stray-preserved
loop-stray-preserved g c =
    let i = c.loop-stray.invariant in
    let p = c.in_ok-stop_next.ensures in
    record {
      index = index-kept _ _ c.args.index.now p.cells i.index;
      cells = keep-then _ _ _ i.cells p.cells;
      stops = each-more StopsOne c.args.strays.now c.loop-stray.stray-index c.stray-item.result _ _ _
          c.loop-stray-test.true c.stray-item.is i.stops p.stops;
    }

pub returns-in_err-stop_next-clause-cells : goal.returns-in_err-stop_next-clause-cells
returns-in_err-stop_next-clause-cells g c = keep-then _ _ _ c.loop-stray.invariant.cells c.stop_next.ensures.cells
