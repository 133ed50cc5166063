use Rattle.std.proofs.Common.{◌≡◌, List, [], length, sym, ap, subst, ◌∙◌}
use Rattle.std.proofs.lemmas.Result.{IfOk-weaker}
use Rattle.cell_records.specs.declared.job_name.JobName.{JobName}
use Rattle.cell_records.specs.declared.job_name.JobName.TheVariants.{Task}
use Rattle.auctioneer.specs.Fields.{ServesEach}
use Rattle.auctioneer.specs.Spots.{AreSpotsFor, IsRanking}
use Rattle.auctioneer.specs.declared.groups.Group.{Group}
use Rattle.auctioneer.specs.declared.stand.Stand.{Stand}
use Rattle.auctioneer.proofs.field.Field.lean_made.Goals as goal

pub spots_with_room-requires : goal.spots_with_room-requires
spots_with_room-requires c =
    ap length (c.in_ok-all.ensures.items ∙ c.as_slice.ensures.value) ∙ (c.requires.common (Task [])).spots.all
    ∙ ap length (sym c.as_slice-2.ensures.value)

pub returns : goal.returns
returns c =
    let f = c.args.self.now in
    let all = c.in_ok-all.all.items in
    let slice = c.as_slice-2.result.now in
    let same : all ≡ f.common.all.items = c.in_ok-all.ensures.items ∙ c.as_slice.ensures.value in
    let spots : (job : JobName) → AreSpotsFor job f.groups.items slice all =
    λ job. subst (λ (ss : List Stand). AreSpotsFor job f.groups.items ss all) (sym c.as_slice-2.ensures.value)
    (subst (AreSpotsFor job f.groups.items f.stands.items) (sym same) (c.requires.common job).spots) in
    IfOk-weaker c.spots_with_room.result
    (λ made. (other : JobName) (groups : List Group) → AreSpotsFor other groups slice all
    → IsRanking other groups slice made)
    (ServesEach f.groups.items f.stands.items)
    (λ made serves job. subst (λ (ss : List Stand). IsRanking job f.groups.items ss made) c.as_slice-2.ensures.value
    (serves job f.groups.items (spots job))) c.spots_with_room.ensures
