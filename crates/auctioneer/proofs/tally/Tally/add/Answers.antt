use Rattle.std.proofs.Common.{◌≡◌, sym, ap, subst, ◌∙◌}
use Rattle.cell_records.specs.declared.job_name.JobName.{JobName}
use Rattle.cell_records.specs.declared.job_name.JobName.TheVariants.{Lrp}
use Rattle.auctioneer.specs.Tallies.{tallied, Gains, HasRoomFor}
use Rattle.auctioneer.proofs.Counts.{gains, there_then_ok}
use Rattle.auctioneer.proofs.tally.Tally.add.Goals as goal

pub returns-in-Lrp : goal.returns-in-Lrp
returns-in-Lrp c =
    let old = c.args.self.now in
    let zone = c.args.place.now in
    let count : c.count-count.result ≡ tallied old (Lrp c.in-Lrp.key) zone =
    c.count-count.ensures ∙ ap (λ (j : JobName). tallied old j zone) c.in-Lrp.is in
    let room : HasRoomFor old (Lrp c.in-Lrp.key) zone = subst
    (λ (j : JobName). HasRoomFor old j zone) c.in-Lrp.is c.requires.room in
    let put = there_then_ok c.insert-had.result _ _ room c.insert-had.ensures.absent c.insert-had.ensures.updates in
    subst (λ (j : JobName). Gains old (record { counts = c.insert-had.new.self }) j zone) (sym c.in-Lrp.is)
    (gains old (record { counts = c.insert-had.new.self }) c.in-Lrp.key zone c.count-count.result count put.0)
