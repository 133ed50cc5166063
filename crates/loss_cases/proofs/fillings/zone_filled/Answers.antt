use Rattle.std.proofs.Common.{arith}
use Rattle.forecast_records.specs.declared.fits.Filled.{Filled}
use Rattle.auctioneer.specs.Stands.{same_name}
use Rattle.loss_cases.proofs.Growing.{sum_some}
use Rattle.loss_cases.proofs.fillings.zone_filled.Goals as goal

pub taken_in-requires : goal.taken_in-requires
taken_in-requires c =
    let less = sum_some (λ (f : Filled). f.instances) (λ (f : Filled). same_name c.args.zone f.zone) c.args.filled.now
    in
    omega (arith, less, c.requires)
