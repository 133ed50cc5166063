use Rattle.std.proofs.Common.{◌≡◌, true, [], sym, subst, arith}
use Rattle.cell_records.specs.declared.job_name.JobName.TheVariants.{Task}
use Rattle.auctioneer.specs.Needs.{asks_for}
use Rattle.auctioneer.specs.declared.needs.Need.{Need}
use Rattle.auctioneer.proofs.field.Field.renew_common.Goals as goal

pub move_cell-requires : goal.move_cell-requires
move_cell-requires c =
    record { inside = omega (arith, c.requires.inside, (c.requires.field.common (Task [])).spots.all) }

pub returns-clause-field : goal.returns-clause-field
returns-clause-field c =
    let f = c.args.self.now in
    let field = c.requires.field in
    record {
      sound = field.sound;
      common = λ job.
          c.move_cell.ensures.ranking job f.groups.items f.stands.items (c.loaded_spot-spot.ensures job)
          (field.common job);
      whole = λ job. subst (λ (n : Need). asks_for job n ≡ true) (sym c.move_cell.ensures.need) (field.whole job);
      lean = field.lean;
      own = field.own;
      zones = field.zones;
      cells = field.cells;
      refused = field.refused;
    }
