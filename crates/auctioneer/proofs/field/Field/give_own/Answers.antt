use Rattle.std.proofs.Common.{sym, subst}
use Rattle.cell_records.specs.declared.job_name.JobName.{JobName}
use Rattle.auctioneer.specs.Spots.{IsRanking}
use Rattle.auctioneer.proofs.SpotLists.{IsRanking-process}
use Rattle.auctioneer.proofs.field.Field.give_own.Goals as goal

pub returns-in-Ok-clause-field : goal.returns-in-Ok-clause-field
returns-in-Ok-clause-field c =
    let f = c.args.self.now in
    let field = c.requires in
    let key = c.in-Lrp.key in
    record {
      sound = field.sound;
      common = field.common;
      whole = field.whole;
      lean = field.lean;
      own = λ other is.
          IsRanking-process key other f.groups.items f.stands.items c.in-Ok.spots (sym is)
          (subst (λ (j : JobName). IsRanking j f.groups.items f.stands.items c.in-Ok.spots) c.in-Lrp.is
          c.in-Ok.ensures);
      zones = field.zones;
      cells = field.cells;
      refused = field.refused;
    }
