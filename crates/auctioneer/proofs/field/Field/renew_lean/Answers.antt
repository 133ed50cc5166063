use Rattle.std.proofs.Common.{[], Option, subst, arith}
use Rattle.std.specs.Option.{IfSome}
use Rattle.cell_records.specs.declared.job_name.JobName.TheVariants.{Task}
use Rattle.auctioneer.specs.Fields.{ServesEach}
use Rattle.auctioneer.specs.declared.spots.Spots.{Spots}
use Rattle.auctioneer.proofs.field.Field.renew_lean.Goals as goal

pub move_cell-requires : goal.move_cell-requires
move_cell-requires c =
    let f = c.args.self.now in
    let serves : ServesEach f.groups.items f.stands.items c.in-Some.lean =
    subst (λ (o : Option Spots). IfSome o (ServesEach f.groups.items f.stands.items)) c.in-Some.is
    c.requires.field.lean in
    record { inside = omega (arith, c.requires.inside, (serves (Task [])).spots.all) }

pub returns-in-Some-clause-field : goal.returns-in-Some-clause-field
returns-in-Some-clause-field c =
    let f = c.args.self.now in
    let field = c.requires.field in
    let serves : ServesEach f.groups.items f.stands.items c.in-Some.lean =
    subst (λ (o : Option Spots). IfSome o (ServesEach f.groups.items f.stands.items)) c.in-Some.is field.lean in
    record {
      sound = field.sound;
      common = field.common;
      whole = field.whole;
      lean = λ job.
          c.move_cell.ensures.ranking job f.groups.items f.stands.items (c.loaded_spot-spot.ensures job) (serves job);
      own = field.own;
      zones = field.zones;
      cells = field.cells;
      refused = field.refused;
    }
