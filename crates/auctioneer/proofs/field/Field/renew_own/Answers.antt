use Rattle.std.proofs.Common.{[], None, sym, subst, arith}
use Rattle.cell_records.specs.declared.job_name.JobName.TheVariants.{Task}
use Rattle.auctioneer.specs.Spots.{IsSpotOf}
use Rattle.auctioneer.specs.declared.spots.Spot.{Spot}
use Rattle.auctioneer.specs.declared.stand.Stand.{Stand}
use Rattle.auctioneer.proofs.field.Field.renew_own.Goals as goal

pub index-requires : goal.index-requires
index-requires c = omega (arith, c.requires.inside, (c.requires.field.common (Task [])).spots.all)

pub index-requires-2 : goal.index-requires-2
index-requires-2 c =
    let f = c.args.self.now in
    let p : Spot = c.index.result.now in
    let here : IsSpotOf (Task []) f.groups.items f.stands.items c.args.at p =
    subst (IsSpotOf (Task []) f.groups.items f.stands.items c.args.at) (sym c.index.ensures)
    ((c.requires.field.common (Task [])).spots.each c.args.at p c.requires.inside) in
    omega (arith, (here.group no_stand).inside)
  where
    no_stand : Stand
    no_stand = record {
      cell = [];
      zone = [];
      tag = None;
      totals = record { memory = 0; disk = 0; containers = 0 };
      free = record { memory = 0; disk = 0; containers = 0 };
      jobs = [];
    }
