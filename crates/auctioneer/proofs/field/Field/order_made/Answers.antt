use Rattle.std.proofs.Common.{List, sym, subst}
use Rattle.std.proofs.lemmas.Result.{IfOk-weaker}
use Rattle.cell_records.specs.declared.job_name.JobName.{JobName}
use Rattle.auctioneer.specs.Spots.{AreSpotsFor, IsRanking}
use Rattle.auctioneer.specs.declared.groups.Group.{Group}
use Rattle.auctioneer.specs.declared.stand.Stand.{Stand}
use Rattle.auctioneer.proofs.field.Field.order_made.Goals as goal

pub returns : goal.returns
returns c =
    let f = c.args.self.now in
    let job = c.args.job.now.job in
    let all = c.in_ok-all.all.items in
    let slice = c.as_slice.result.now in
    let spots : AreSpotsFor job f.groups.items slice all =
    subst (λ (ss : List Stand). AreSpotsFor job f.groups.items ss all) (sym c.as_slice.ensures.value)
    c.in_ok-all.ensures in
    IfOk-weaker c.spots_with_room.result
    (λ made. (other : JobName) (groups : List Group) → AreSpotsFor other groups slice all
    → IsRanking other groups slice made)
    (IsRanking job f.groups.items f.stands.items)
    (λ made serves. subst (λ (ss : List Stand). IsRanking job f.groups.items ss made) c.as_slice.ensures.value
    (serves job f.groups.items spots)) c.spots_with_room.ensures
