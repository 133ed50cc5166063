use Rattle.std.proofs.Common.{◌++◌, take, List, sym, subst, ◌∙◌}
use Rattle.row_tables.specs.Table.{IsRising, table}
use Rattle.row_tables.proofs.Public.{IsRising-table}
use Rattle.route_emitter.specs.Entries.{itself, route_order}
use Rattle.route_emitter.specs.Near.{IsSwitched, toggle_each}
use Rattle.route_emitter.specs.declared.entry.RouteEntry.{RouteEntry}
use Rattle.route_emitter.proofs.Order.{IsKeyOrder-route_order}
use Rattle.route_emitter.proofs.Switching.{IsRising-exchanged, switched}
use Rattle.route_emitter.proofs.changing.change.Goals as goal

pub toggle_all-requires-clause-rising : goal.toggle_all-requires-clause-rising
toggle_all-requires-clause-rising c =
    let n = c.exchange_each-done.result in
    subst (λ (xs : List RouteEntry). IsRising route_order itself xs) (sym c.exchange_each-done.ensures.items)
    (IsRising-exchanged (take n c.args.unregister.now) (take n c.args.register.now) c.args.entries.now.items
    c.requires.rising)

pub toggle_all-requires-clause-order : goal.toggle_all-requires-clause-order
toggle_all-requires-clause-order c =
    subst (λ (xs : List RouteEntry). IsRising route_order itself xs)
    (sym (c.as_slice.ensures.value ∙ c.gather.ensures.items))
    (IsRising-table route_order itself IsKeyOrder-route_order (c.split_at.result.1.now ++ c.split_at-2.result.1.now))

pub returns : goal.returns
returns c =
    let comes = c.args.register.now in
    let goes = c.args.unregister.now in
    let old = c.args.entries.now.items in
    let within = c.exchange_each-done.ensures.within in
    let changes =
    c.as_slice.ensures.value ∙ c.gather.ensures.items ∙ (λ i.
    table route_order itself (c.split_at.ensures.back i ++ c.split_at-2.ensures.back i)) in
    subst (λ (xs : List RouteEntry). IsSwitched comes goes old xs)
    (sym (c.toggle_all.ensures ∙ (λ i. toggle_each (changes i) (c.exchange_each-done.ensures.items i))))
    (switched comes goes old c.requires.lists c.requires.rising c.exchange_each-done.result within.0 within.1)
