use Rattle.auctioneer.proofs.field.Field.add_looks.Goals as goal

pub returns-in-Lrp-clause-field : goal.returns-in-Lrp-clause-field
returns-in-Lrp-clause-field c =
    let field = c.requires in
    record {
      sound = field.sound;
      common = field.common;
      whole = field.whole;
      lean = field.lean;
      own = field.own;
      zones = field.zones;
      cells = field.cells;
      refused = field.refused;
    }

pub returns-in_default-clause-field : goal.returns-in_default-clause-field
returns-in_default-clause-field c =
    let field = c.requires in
    record {
      sound = field.sound;
      common = field.common;
      whole = field.whole;
      lean = field.lean;
      own = field.own;
      zones = field.zones;
      cells = field.cells;
      refused = field.refused;
    }
