use Rattle.std.proofs.Common.{[], sym, subst, arith}
use Rattle.cell_records.specs.declared.job_name.JobName.TheVariants.{Task}
use Rattle.auctioneer.specs.Spots.{IsSpotOf}
use Rattle.auctioneer.specs.declared.spots.Spot.{Spot}
use Rattle.auctioneer.proofs.SpotLists.{IsSpotOf-loaded}
use Rattle.auctioneer.proofs.field.Field.loaded_spot.Goals as goal

pub index-before-requires : goal.index-before-requires
index-before-requires c = omega (arith, c.requires.inside, (c.requires.field.common (Task [])).spots.all)

pub returns : goal.returns
returns c = λ job.
    let f = c.args.self.now in
    let at = c.args.at in
    let before : Spot = c.index-before.result.now in
    IsSpotOf-loaded job f.groups.items f.stands.items at before c.index.result.now c.load_of-load.result
    c.requires.inside c.index.ensures c.load_of-load.ensures
    (subst (IsSpotOf job f.groups.items f.stands.items at) (sym c.index-before.ensures)
    ((c.requires.field.common job).spots.each at before c.requires.inside))
