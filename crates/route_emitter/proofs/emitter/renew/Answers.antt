use Rattle.std.proofs.Common.{◌≡◌, ◌+◌, ◌*◌, ◌≤◌, ◌<◌, List, ◌++◌, length, sym, ap, subst, ◌∙◌, arith}
use Rattle.row_tables.specs.Table.{IsRising}
use Rattle.route_emitter.specs.Entries.{itself, minus, route_order}
use Rattle.route_emitter.specs.Keeping.{desired_after, running_after}
use Rattle.route_emitter.specs.Near.{AreApart, IsSwitched, entries_of}
use Rattle.route_emitter.specs.Routes.{routes_in}
use Rattle.route_emitter.specs.declared.changing.TheConstants.{FEW}
use Rattle.route_emitter.specs.declared.entry.RouteEntry.{RouteEntry}
use Rattle.route_emitter.proofs.Changes.{minus-apart}
use Rattle.route_emitter.proofs.Renewing.{comes, entries-rise, goes, minus-no_more, old-rises, renewed}
use Rattle.route_emitter.proofs.emitter.renew.Goals as goal

pub add_lacking-requires-clause-rising : goal.add_lacking-requires-clause-rising
add_lacking-requires-clause-rising c =
    subst (λ (xs : List RouteEntry). IsRising route_order itself xs)
    (sym (c.as_slice-2.ensures.value ∙ c.requires.plan.before))
    (entries-rise c.args.kept.now.desired c.args.kept.now.running c.args.named.now)

pub add_lacking-requires-2-clause-rising : goal.add_lacking-requires-2-clause-rising
add_lacking-requires-2-clause-rising c =
    subst (λ (xs : List RouteEntry). IsRising route_order itself xs)
    (sym (c.as_slice-4.ensures.value ∙ c.fill.ensures.items))
    (entries-rise c.follow.new.self.desired c.follow.new.self.running c.args.named.now)

pub change-requires-clause-rising : goal.change-requires-clause-rising
change-requires-clause-rising c =
    old-rises c.args.named.now c.args.events.now c.args.kept.now.desired c.args.kept.now.running c.args.table.now.items
    c.requires.table c.requires.rising c.requires.others

pub change-requires-clause-lists : goal.change-requires-clause-lists
change-requires-clause-lists c =
    let after = c.fill.new.entries.items in
    let before = c.args.plan.before.items in
    let came =
    c.as_slice-5.ensures.value ∙ c.add_lacking.ensures ∙ (λ i. c.requires.plan.register.none i
    ++ minus (c.as_slice.ensures.value i) (c.as_slice-2.ensures.value i)) in
    let went =
    c.as_slice-6.ensures.value ∙ c.add_lacking-2.ensures ∙
    (λ i. c.requires.plan.unregister.none i ++ minus (c.as_slice-3.ensures.value i) (c.as_slice-4.ensures.value i))
    in
    let last = subst (λ (xs : List RouteEntry). IsRising route_order itself xs) (sym c.fill.ensures.items)
    (entries-rise c.follow.new.self.desired c.follow.new.self.running c.args.named.now) in
    let first = subst (λ (xs : List RouteEntry). IsRising route_order itself xs) (sym c.requires.plan.before)
    (entries-rise c.args.kept.now.desired c.args.kept.now.running c.args.named.now) in
    subst (λ (xs : List RouteEntry). AreApart xs c.as_slice-6.result.now) (sym came)
    (subst (λ (xs : List RouteEntry). AreApart (minus after before) xs) (sym went)
    (minus-apart after before last first))

pub change-requires-clause-changes : goal.change-requires-clause-changes
change-requires-clause-changes c =
    let comes = minus c.as_slice.result.now c.as_slice-2.result.now in
    let goes = minus c.as_slice-3.result.now c.as_slice-4.result.now in
    let register : length c.as_slice-5.result.now ≡ length comes =
    ap length (c.as_slice-5.ensures.value ∙ c.add_lacking.ensures ∙ ap
    (λ (xs : List RouteEntry). xs ++ comes) c.requires.plan.register.none) in
    let unregister : length c.as_slice-6.result.now ≡ length goes =
    ap length (c.as_slice-6.ensures.value ∙ c.add_lacking-2.ensures ∙ ap
    (λ (xs : List RouteEntry). xs ++ goes) c.requires.plan.unregister.none) in
    let few = minus-no_more c.as_slice.result.now c.as_slice-2.result.now in
    let few_too = minus-no_more c.as_slice-3.result.now c.as_slice-4.result.now in (
      c.requires.plan.changes.none,
      omega (
        arith,
        register,
        unregister,
        few,
        few_too,
        c.as_slice.ensures.len,
        c.as_slice-3.ensures.len,
        c.fill.ensures.len,
        c.requires.plan.most,
        c.requires.plan.changes.room,
      ),
    )

pub change-requires-clause-many : goal.change-requires-clause-many
change-requires-clause-many c more =
    let comes = minus c.as_slice.result.now c.as_slice-2.result.now in
    let goes = minus c.as_slice-3.result.now c.as_slice-4.result.now in
    let register : length c.as_slice-5.result.now ≡ length comes =
    ap length (c.as_slice-5.ensures.value ∙ c.add_lacking.ensures ∙ ap
    (λ (xs : List RouteEntry). xs ++ comes) c.requires.plan.register.none) in
    let unregister : length c.as_slice-6.result.now ≡ length goes =
    ap length (c.as_slice-6.ensures.value ∙ c.add_lacking-2.ensures ∙ ap
    (λ (xs : List RouteEntry). xs ++ goes) c.requires.plan.unregister.none) in
    let few = minus-no_more c.as_slice.result.now c.as_slice-2.result.now in
    let few_too = minus-no_more c.as_slice-3.result.now c.as_slice-4.result.now in
    let most : length c.as_slice-5.result.now + length c.as_slice-6.result.now ≤ 6 * length c.args.named.now =
    omega (
      arith,
      register,
      unregister,
      few,
      few_too,
      c.as_slice.ensures.len,
      c.as_slice-3.ensures.len,
      c.fill.ensures.len,
      c.requires.plan.most,
    ) in
    let many : FEW < 6 * length c.args.named.now = omega (arith, more, most) in
    let space = c.requires.plan.next many in
    omega (arith, most, space)

pub returns-clause-table : goal.returns-clause-table
returns-clause-table c =
    let named = c.args.named.now in
    let es = c.args.events.now in
    let ds = c.args.kept.now.desired in
    let rs = c.args.kept.now.running in
    let old = c.args.table.now.items in
    let new = c.change.new.entries.items in
    let last : c.fill.new.entries.items ≡ entries_of (desired_after es ds) (running_after es rs) named =
    c.fill.ensures.items ∙ (λ i. entries_of (c.follow.ensures.desired i) (c.follow.ensures.running i) named) in
    let came =
    c.as_slice-5.ensures.value ∙ c.add_lacking.ensures
    ∙ (λ i. c.requires.plan.register.none i ++ minus ((c.as_slice.ensures.value ∙ last) i)
    ((c.as_slice-2.ensures.value ∙ c.requires.plan.before) i)) in
    let went =
    c.as_slice-6.ensures.value ∙ c.add_lacking-2.ensures
    ∙ (λ i. c.requires.plan.unregister.none i ++ minus ((c.as_slice-3.ensures.value ∙ c.requires.plan.before) i)
    ((c.as_slice-4.ensures.value ∙ last) i)) in
    renewed named es ds rs old c.requires.table c.requires.rising c.requires.others new
    (subst (λ (xs : List RouteEntry). IsSwitched xs (minus (entries_of ds rs named)
    (entries_of (desired_after es ds) (running_after es rs) named)) old new) came
    (subst (λ (xs : List RouteEntry). IsSwitched c.as_slice-5.result.now xs old new) went c.change.ensures))
    ∙ sym (λ i. routes_in (c.follow.ensures.desired i) (c.follow.ensures.running i))

pub returns-clause-register : goal.returns-clause-register
returns-clause-register c =
    let named = c.args.named.now in
    let es = c.args.events.now in
    let ds = c.args.kept.now.desired in
    let rs = c.args.kept.now.running in
    let old = c.args.table.now.items in
    let last : c.fill.new.entries.items ≡ entries_of (desired_after es ds) (running_after es rs) named =
    c.fill.ensures.items ∙ (λ i. entries_of (c.follow.ensures.desired i) (c.follow.ensures.running i) named) in
    let new : c.change.new.entries.items ≡ routes_in (desired_after es ds) (running_after es rs) =
    returns-clause-table c ∙ (λ i. routes_in (c.follow.ensures.desired i) (c.follow.ensures.running i)) in
    c.from.ensures ∙ c.add_lacking.ensures
    ∙ (λ i. c.requires.plan.register.none i ++ minus ((c.as_slice.ensures.value ∙ last) i)
    ((c.as_slice-2.ensures.value ∙ c.requires.plan.before) i))
    ∙ comes named es ds rs old c.requires.table c.requires.rising c.requires.others
    ∙ ap (λ (xs : List RouteEntry). minus xs old) (sym new)

pub returns-clause-unregister : goal.returns-clause-unregister
returns-clause-unregister c =
    let named = c.args.named.now in
    let es = c.args.events.now in
    let ds = c.args.kept.now.desired in
    let rs = c.args.kept.now.running in
    let old = c.args.table.now.items in
    let last : c.fill.new.entries.items ≡ entries_of (desired_after es ds) (running_after es rs) named =
    c.fill.ensures.items ∙ (λ i. entries_of (c.follow.ensures.desired i) (c.follow.ensures.running i) named) in
    let new : c.change.new.entries.items ≡ routes_in (desired_after es ds) (running_after es rs) =
    returns-clause-table c ∙ (λ i. routes_in (c.follow.ensures.desired i) (c.follow.ensures.running i)) in
    c.from-2.ensures ∙ c.add_lacking-2.ensures
    ∙ (λ i. c.requires.plan.unregister.none i ++ minus ((c.as_slice-3.ensures.value ∙ c.requires.plan.before) i)
    ((c.as_slice-4.ensures.value ∙ last) i))
    ∙ goes named es ds rs old c.requires.table c.requires.rising c.requires.others
    ∙ ap (λ (xs : List RouteEntry). minus old xs) (sym new)
