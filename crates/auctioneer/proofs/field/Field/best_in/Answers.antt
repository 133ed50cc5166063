use Rattle.std.proofs.Common.{◌≡◌, ◌+◌, List, get_or, Some, None, sym, subst, ◌∙◌}
use Rattle.std.specs.BTreeSet.{IsKeyInRange, keys_between}
use Rattle.std.specs.List.{All}
use Rattle.std.specs.declared.ops.Bound.TheVariants.{Included, Excluded}
use Rattle.std.proofs.lemmas.List.{get_or_default}
use Rattle.std.proofs.lemmas.List.Elements.{All-head}
use Rattle.auctioneer.specs.Spots.{spot_order}
use Rattle.auctioneer.specs.declared.candidate.Candidate.{Candidate}
use Rattle.auctioneer.specs.declared.groups.Group.{Group}
use Rattle.auctioneer.specs.declared.spots.Spot.{Spot}
use Rattle.auctioneer.proofs.SpotRanges.{first_of}
use Rattle.auctioneer.proofs.Walks.{IsSpotIn, IsBestBefore, best_at_start, best_at_end, zone_known_of, before_unfit, before_fitting, best_settled_of}
use Rattle.auctioneer.proofs.field.Field.best_in.Goals as goal

pub loop-spot-init : goal.loop-spot-init
loop-spot-init c =
    let f = c.args.self.now in
    let spots = c.args.spots.now in
    let list = c.range-spot-items.result in
    let is : list ≡ keys_between spot_order (Included (first_of c.args.group))
    (Excluded (first_of (c.args.group + 1))) spots.order =
    c.range-spot-items.ensures.between tt ∙ (λ i. keys_between spot_order (Included (c.first_of.ensures i))
    (Excluded (c.first_of-2.ensures i)) spots.order) in
    let inside : All (IsKeyInRange spot_order (Included (first_of c.args.group))
    (Excluded (first_of (c.args.group + 1))) spots.order) list =
    subst (λ (hi : Spot). All (IsKeyInRange spot_order (Included (first_of c.args.group)) (Excluded hi) spots.order)
    list) c.first_of-2.ensures
    (subst (λ (lo : Spot). All (IsKeyInRange spot_order (Included lo) (Excluded c.first_of-2.result) spots.order) list)
    c.first_of.ensures (c.range-spot-items.ensures.in_range tt).0) in
    subst (λ (xs : List Spot). IsBestBefore f.stands.items spots.all.items c.args.job.now c.args.group xs c.args.found)
    (sym c.into_iter-spot-iterator.ensures.into_iter_gives)
    (best_at_start f c.requires.field c.args.job.now spots c.requires.spots c.args.group c.args.found list
    c.requires.served c.requires.found is inside c.range-spot-items.ensures.ordered)

pub least_of-requires : goal.least_of-requires
least_of-requires c =
    let f = c.args.self.now in
    let spots = c.args.spots.now.all.items in
    let before = subst (λ (xs : List Spot). IsBestBefore f.stands.items spots c.args.job.now c.args.group xs
    c.loop-spot.best) c.in-Some.ensures.steps c.loop-spot.invariant in
    (All-head (IsSpotIn f.stands.items spots c.args.group) c.in-Some.spot.now c.next.new.self before.each).inside

pub candidate_at-requires-clause-inside : goal.candidate_at-requires-clause-inside
candidate_at-requires-clause-inside c =
    let f = c.args.self.now in
    let spots = c.args.spots.now.all.items in
    let before = subst (λ (xs : List Spot). IsBestBefore f.stands.items spots c.args.job.now c.args.group xs
    c.loop-spot.best) c.in-Some.ensures.steps c.loop-spot.invariant in
    (All-head (IsSpotIn f.stands.items spots c.args.group) c.in-Some.spot.now c.next.new.self before.each).inside

-- a group, to read where there is none
no_group : Group
no_group = record { zone = None; tag = None }

pub candidate_at-requires-clause-zone : goal.candidate_at-requires-clause-zone
candidate_at-requires-clause-zone c =
    let f = c.args.self.now in
    let spots = c.args.spots.now.all.items in
    let number = c.args.group in
    let g : Group = get_or f.groups.items number no_group in
    let before = subst (λ (xs : List Spot). IsBestBefore f.stands.items spots c.args.job.now number xs c.loop-spot.best)
    c.in-Some.ensures.steps c.loop-spot.invariant in
    zone_known_of f c.requires.field c.args.job.now c.args.spots.now c.requires.spots number g
    (get_or_default f.groups.items number no_group g c.requires.inside) c.floor_of-floor.result
    (c.floor_of-floor.ensures no_group)
    c.in-Some.spot.now (All-head (IsSpotIn f.stands.items spots number) c.in-Some.spot.now c.next.new.self before.each)

pub returns-then-is_settled : goal.returns-then-is_settled
returns-then-is_settled c =
    let f = c.args.self.now in
    let spots = c.args.spots.now.all.items in
    let number = c.args.group in
    let g : Group = get_or f.groups.items number no_group in
    let before = subst (λ (xs : List Spot). IsBestBefore f.stands.items spots c.args.job.now number xs c.loop-spot.best)
    c.in-Some.ensures.steps c.loop-spot.invariant in
    best_settled_of f c.requires.field c.args.job.now c.args.spots.now c.requires.spots number g
    (get_or_default f.groups.items number no_group g c.requires.inside) c.floor_of-floor.result
    (c.floor_of-floor.ensures no_group)
    c.in-Some.spot.now c.next.new.self c.loop-spot.best c.least_of.result before c.least_of.ensures
    (c.is_settled.ensures c.if-is_settled.true)

pub loop-spot-preserved-in-Some-candidate_at : goal.loop-spot-preserved-in-Some-candidate_at
loop-spot-preserved-in-Some-candidate_at c =
    let f = c.args.self.now in
    let spots = c.args.spots.now.all.items in
    let before = subst (λ (xs : List Spot). IsBestBefore f.stands.items spots c.args.job.now c.args.group xs
    c.loop-spot.best) c.in-Some.ensures.steps c.loop-spot.invariant in
    subst (λ (x : Candidate). IsBestBefore f.stands.items spots c.args.job.now c.args.group c.next.new.self (Some x))
    (sym c.better_of.ensures)
    (before_fitting f c.requires.field c.args.job.now c.args.spots.now c.requires.spots c.args.group c.in-Some.spot.now
    c.next.new.self c.loop-spot.best before
    c.in-Some-candidate_at.other c.in-Some-candidate_at.ensures.fitting c.in-Some-candidate_at.ensures.place)

pub loop-spot-preserved : goal.loop-spot-preserved
loop-spot-preserved c =
    let f = c.args.self.now in
    let spots = c.args.spots.now.all.items in
    let before = subst (λ (xs : List Spot). IsBestBefore f.stands.items spots c.args.job.now c.args.group xs
    c.loop-spot.best) c.in-Some.ensures.steps c.loop-spot.invariant in
    before_unfit f c.requires.field c.args.job.now c.args.spots.now c.requires.spots c.args.group c.in-Some.spot.now
    c.next.new.self c.loop-spot.best before c.in_default.ensures.none

pub returns : goal.returns
returns c =
    let f = c.args.self.now in
    let spots = c.args.spots.now.all.items in
    best_at_end f c.requires.field c.args.job.now c.args.spots.now c.requires.spots c.args.group c.loop-spot.best
    (subst (λ (xs : List Spot). IsBestBefore f.stands.items spots c.args.job.now c.args.group xs c.loop-spot.best)
    c.in-None.ensures.steps.0 c.loop-spot.invariant)
