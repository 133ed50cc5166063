use Rattle.auctioneer.proofs.Refusals.{none-from_best}
use Rattle.auctioneer.proofs.field.Field.refuse.Goals as goal

pub returns-clause-field : goal.returns-clause-field
returns-clause-field c =
    let f = c.args.self.now in
    let field = c.requires.field in
    record {
      sound = field.sound;
      common = field.common;
      whole = field.whole;
      lean = field.lean;
      own = field.own;
      zones = field.zones;
      cells = field.cells;
      refused = c.remember.ensures f.stands.items field.refused
          (none-from_best f.stands.items c.args.job.now c.requires.none);
    }
