use Rattle.std.proofs.Common.{cond, Option, Some, ap, ◌∙◌, arith}
use Rattle.auctioneer.specs.Stands.{same_name}
use Rattle.dump_lines.specs.declared.cell_state.Place.{Place}
use Rattle.what_if.proofs.Finding.{place_back}
use Rattle.what_if.proofs.silence.Places.of.Goals as goal

pub loop-at-preserved : goal.loop-at-preserved
loop-at-preserved c =
    let p = c.index-list-at.result in
    record {
      within = omega arith;
      found = λ cell.
          c.in_ok-insert.ensures.updates.0 cell
          ∙ ap (λ (o : Option Place). cond (same_name p.cell cell) (Some p) o) (c.loop-at.invariant.found cell)
          ∙ place_back c.args.list.now c.loop-at.at p (omega arith) c.loop-at.invariant.within c.index-list-at.is cell;
    }
