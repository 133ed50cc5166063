use Rattle.std.proofs.Common.{refl}
use Rattle.pair_runs.specs.Accounts.{items_in}
use Rattle.pair_top.proofs.Fits.{fits_at}
use Rattle.pair_top.proofs.closing.closed.Goals as goal

pub finish-ending-requires : goal.finish-ending-requires
finish-ending-requires g c =
    let kept = c.holds.ensures.primary in
    record {
      fits = fits_at c.args.pair.primary.base c.args.pair.primary.log (items_in c.args.account.answers) c.args.start
          kept.valid kept.lawful c.requires.log c.requires.start;
    }

pub returns-clause-ending : goal.returns-clause-ending
returns-clause-ending g c = (c.finish-ending.result, refl, c.finish-ending.ensures)

pub returns-clause-leaves : goal.returns-clause-leaves
returns-clause-leaves g c = record {
  last = c.args.pair;
  same = record { primary = refl; standby = refl; floor = refl };
  log = c.requires.log;
  covers = c.requires.covers;
  stands = c.holds.ensures.stands;
  shows = c.holds.ensures.shows;
  kept = (c.holds.ensures.primary, c.holds.ensures.standby);
  primary_is = cc;
  standby_is = cc;
}
