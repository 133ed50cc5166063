use Rattle.std.proofs.Common.{◌≡◌, ℕ, ◌<◌, length, List, Option, Some, None, set, get_or, sym, ap, subst, ◌∙◌}
use Rattle.std.proofs.lemmas.List.{get_or_default, get_or-set_same}
use Rattle.std.specs.Option.{IfSome}
use Rattle.cell_records.specs.declared.job.Job.{Job}
use Rattle.cell_records.specs.declared.job_name.JobName.{JobName}
use Rattle.cell_records.specs.declared.job_name.JobName.TheVariants.{Lrp}
use Rattle.auctioneer.specs.Asked.{AreStands}
use Rattle.auctioneer.specs.Refused.{AreRefused}
use Rattle.auctioneer.specs.Fields.{ServesEach, ServesOwn}
use Rattle.auctioneer.specs.Spots.{IsRanking}
use Rattle.auctioneer.specs.Stands.{with_job}
use Rattle.auctioneer.specs.Tallies.{HasRoomFor, Gains, CountsAt}
use Rattle.auctioneer.specs.declared.field.Own.{Own}
use Rattle.auctioneer.specs.declared.groups.Group.{Group}
use Rattle.auctioneer.specs.declared.spots.Spots.{Spots}
use Rattle.auctioneer.specs.declared.stand.Stand.{Stand}
use Rattle.auctioneer.specs.declared.tally.Place.TheVariants.{Zone, Cell}
use Rattle.auctioneer.proofs.Counts.{CountsAt-put, tallied-few}
use Rattle.auctioneer.proofs.Refusals.{AreRefused-put}
use Rattle.auctioneer.proofs.Shortages.{LacksRoom-put}
use Rattle.auctioneer.proofs.SpotLists.{AreSpotsFor-put}
use Rattle.auctioneer.proofs.field.Field.count_in.Goals as goal

-- the cell with the job on it
there_with_job : (old new : List Stand) (at : ℕ) (job : Job) (stand : Stand) → at < length old
    → stand ≡ get_or new at stand → new ≡ set old at (with_job job (get_or old at stand))
    → stand ≡ with_job job (get_or old at stand)
there_with_job old new at job stand inside is changed =
    is ∙ ap (λ (xs : List Stand). get_or xs at stand) changed ∙ get_or-set_same old at
    (with_job job (get_or old at stand)) stand inside

-- an order serves on where a job is put on a cell
ranking_put : (stands : List Stand) (groups : List Group) (at : ℕ) (s : Stand) (job : Job) → at < length stands
    → s ≡ get_or stands at s → (other : JobName) (spots : Spots) → IsRanking other groups stands spots
    → IsRanking other groups (set stands at (with_job job s)) spots
ranking_put stands groups at s job inside is other spots h = record {
  spots = AreSpotsFor-put other groups stands at s job inside is spots.all.items h.spots;
  order = h.order;
  left_out = λ k x p below out. LacksRoom-put spots.need stands at s job k x inside is (h.left_out k x p below out);
}

lean_put : (lean : Option Spots) (stands new : List Stand) (groups : List Group) (at : ℕ) (s : Stand) (job : Job)
    → at < length stands → s ≡ get_or stands at s → new ≡ set stands at (with_job job s)
    → IfSome lean (ServesEach groups stands) → IfSome lean (ServesEach groups new)
lean_put None stands new groups at s job inside is changed h = tt
lean_put (Some spots) stands new groups at s job inside is changed h = λ other.
    subst (λ (ss : List Stand). IsRanking other groups ss spots) (sym changed)
    (ranking_put stands groups at s job inside is other spots (h other))

own_put : (own : Option Own) (stands new : List Stand) (groups : List Group) (at : ℕ) (s : Stand) (job : Job)
    → at < length stands → s ≡ get_or stands at s → new ≡ set stands at (with_job job s)
    → IfSome own (ServesOwn groups stands) → IfSome own (ServesOwn groups new)
own_put None stands new groups at s job inside is changed h = tt
own_put (Some o) stands new groups at s job inside is changed h = λ key same.
    subst (λ (ss : List Stand). IsRanking (Lrp key) groups ss o.spots) (sym changed)
    (ranking_put stands groups at s job inside is (Lrp key) o.spots (h key same))

pub add-requires-clause-few : goal.add-requires-clause-few
add-requires-clause-few c =
    let f = c.make_room.new.self in
    let field = c.make_room.ensures.field in
    tallied-few Zone f.in_zones f.stands.items c.args.job.now.job c.index-stand.result.now.zone field.sound field.zones

pub add-requires-clause-room : goal.add-requires-clause-room
add-requires-clause-room c =
    let f = c.make_room.new.self in
    let stand = c.index-stand.result.now in
    let inside : c.args.at < length f.stands.items = subst (λ (ss : List Stand). c.args.at < length ss)
    (sym c.make_room.ensures.stands) c.requires.best.inside in
    subst (λ (x : Stand). HasRoomFor f.in_zones c.args.job.now.job x.zone)
    (sym (there_with_job f.stands.items c.place_at.new.stands.items c.args.at c.args.job.now stand inside
    c.index-stand.ensures (c.in_ok-made.ensures.one stand)))
    (c.in_ok-make_room.ensures.room.zone stand)

pub add-requires-2-clause-few : goal.add-requires-2-clause-few
add-requires-2-clause-few c =
    let f = c.make_room.new.self in
    let field = c.make_room.ensures.field in
    tallied-few Cell f.on_cells f.stands.items c.args.job.now.job c.index-stand.result.now.cell field.sound field.cells

pub add-requires-2-clause-room : goal.add-requires-2-clause-room
add-requires-2-clause-room c =
    let f = c.make_room.new.self in
    let stand = c.index-stand.result.now in
    let inside : c.args.at < length f.stands.items = subst (λ (ss : List Stand). c.args.at < length ss)
    (sym c.make_room.ensures.stands) c.requires.best.inside in
    subst (λ (x : Stand). HasRoomFor f.on_cells c.args.job.now.job x.cell)
    (sym (there_with_job f.stands.items c.place_at.new.stands.items c.args.at c.args.job.now stand inside
    c.index-stand.ensures (c.in_ok-made.ensures.one stand)))
    (c.in_ok-make_room.ensures.room.cell stand)

pub returns-clause-field : goal.returns-clause-field
returns-clause-field c =
    let f = c.make_room.new.self in
    let field = c.make_room.ensures.field in
    let items = f.stands.items in
    let at = c.args.at in
    let job = c.args.job.now in
    let stand = c.index-stand.result.now in
    let inside : at < length items = subst (λ (ss : List Stand). at < length ss)
    (sym c.make_room.ensures.stands) c.requires.best.inside in
    let s : Stand = get_or items at stand in
    let is : s ≡ get_or items at s = get_or_default items at stand s inside in
    let changed : c.place_at.new.stands.items ≡ set items at (with_job job s) = c.in_ok-made.ensures.one stand in
    let here : stand ≡ with_job job s = there_with_job items c.place_at.new.stands.items at job stand inside
    c.index-stand.ensures changed in
    let gains : Gains f.in_zones c.add.new.self job.job s.zone =
    subst (λ (x : Stand). Gains f.in_zones c.add.new.self job.job x.zone) here c.add.ensures in
    let gains_cell : Gains f.on_cells c.add-2.new.self job.job s.cell =
    subst (λ (x : Stand). Gains f.on_cells c.add-2.new.self job.job x.cell) here c.add-2.ensures in
    record {
      sound = c.in_ok-made.ensures.sound;
      common = λ other. subst (λ (ss : List Stand). IsRanking other f.groups.items ss f.common) (sym changed)
          (ranking_put items f.groups.items at s job inside is other f.common (field.common other));
      whole = field.whole;
      lean = lean_put f.lean items c.place_at.new.stands.items f.groups.items at s job inside is changed field.lean;
      own = own_put f.own items c.place_at.new.stands.items f.groups.items at s job inside is changed field.own;
      zones =
          subst (CountsAt Zone c.add.new.self) (sym changed)
          (CountsAt-put Zone f.in_zones c.add.new.self items at s job field.zones gains inside is);
      cells =
          subst (CountsAt Cell c.add-2.new.self) (sym changed)
          (CountsAt-put Cell f.on_cells c.add-2.new.self items at s job field.cells gains_cell inside is);
      refused =
          subst (λ (ss : List Stand). AreRefused ss f.refused.items) (sym changed)
          (AreRefused-put items at s job f.refused.items inside is field.refused);
    }

pub returns-in_err-made-clause-field : goal.returns-in_err-made-clause-field
returns-in_err-made-clause-field c =
    let f = c.make_room.new.self in
    let field = c.make_room.ensures.field in
    let same : c.place_at.new.stands.items ≡ f.stands.items = c.in_err-made.ensures.err in
    record {
      sound = subst AreStands (sym same) field.sound;
      common = λ other. subst (λ (ss : List Stand). IsRanking other f.groups.items ss f.common) (sym same)
          (field.common other);
      whole = field.whole;
      lean = subst (λ (ss : List Stand). IfSome f.lean (ServesEach f.groups.items ss)) (sym same) field.lean;
      own = subst (λ (ss : List Stand). IfSome f.own (ServesOwn f.groups.items ss)) (sym same) field.own;
      zones = subst (CountsAt Zone f.in_zones) (sym same) field.zones;
      cells = subst (CountsAt Cell f.on_cells) (sym same) field.cells;
      refused = subst (λ (ss : List Stand). AreRefused ss f.refused.items) (sym same) field.refused;
    }
