use Rattle.std.proofs.Common.{cond, Option, Some, ap, ◌∙◌, arith}
use Rattle.auctioneer.specs.Stands.{same_name}
use Rattle.site_spread.proofs.Finding.{place_back}
use Rattle.dump_lines.specs.declared.cell_state.Place.{Place}
use Rattle.site_spread.specs.Together.{place_of}
use Rattle.site_spread.proofs.tallies.first_places.Goals as goal

pub loop-at-preserved : goal.loop-at-preserved
loop-at-preserved c =
    let s = c.index-stays-at.result in
    record {
      within = omega arith;
      found = λ process.
          c.in_ok-insert.ensures.updates.0 process
          ∙ ap (λ (o : Option Place). cond (same_name s.key.process process) (Some (place_of s)) o)
          (c.loop-at.invariant.found process)
          ∙ place_back c.args.stays.now c.loop-at.at s (omega arith) c.loop-at.invariant.within c.index-stays-at.is
          process;
    }
