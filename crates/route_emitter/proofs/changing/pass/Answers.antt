use Rattle.std.proofs.Common.{◌+◌, ◌++◌, ◌∷◌, [], List, take, drop, sym, ap, subst, ◌∙◌, append_assoc}
use Rattle.row_tables.specs.Table.{IsRising}
use Rattle.route_emitter.specs.Entries.{itself, route_order}
use Rattle.route_emitter.specs.Near.{toggle_each}
use Rattle.route_emitter.specs.declared.entry.RouteEntry.{RouteEntry}
use Rattle.route_emitter.proofs.Passing.{IsRising-drop, passed_found, passed_placed}
use Rattle.route_emitter.proofs.changing.pass.Goals as goal

pub returns-in-Ok-clause-passed : goal.returns-in-Ok-clause-passed
returns-in-Ok-clause-passed c later order =
    let next = c.args.next.now.items in
    let rest = c.args.rest.now in
    let at = c.in-Ok.at in
    let told = c.extend.ensures.items ∙ ap (λ (front : List RouteEntry). next ++ front) c.split_at.ensures.front in
    (λ i. told i ++ toggle_each later (c.split_at-in-Ok.ensures.back i))
    ∙ append_assoc next (take at rest) (toggle_each later (drop (at + 1) rest))
    ∙ ap (λ (xs : List RouteEntry). next ++ xs) (passed_found c.args.entry.now rest at c.requires.rising later
    c.in-Ok.ensures.bound c.in-Ok.ensures.ok order)

pub returns-in-Ok-clause-rising : goal.returns-in-Ok-clause-rising
returns-in-Ok-clause-rising c =
    subst (λ (xs : List RouteEntry). IsRising route_order itself xs) (sym c.split_at-in-Ok.ensures.back)
    (IsRising-drop (c.in-Ok.at + 1) c.args.rest.now c.requires.rising)

pub returns-in-Err-clause-passed : goal.returns-in-Err-clause-passed
returns-in-Err-clause-passed c later order =
    let next = c.args.next.now.items in
    let rest = c.args.rest.now in
    let at = c.in-Err.at in
    let e = c.args.entry.now in
    let told =
    c.push_reserved.ensures.items
    ∙ ap (λ (xs : List RouteEntry). xs ++ e ∷ []) (c.extend-in-Err.ensures.items ∙ ap
    (λ (front : List RouteEntry). next ++ front) c.split_at-in-Err.ensures.front)
    ∙ append_assoc next (take at rest) (e ∷ []) in
    (λ i. told i ++ toggle_each later (c.split_at-in-Err.ensures.back i))
    ∙ append_assoc next (take at rest ++ e ∷ []) (toggle_each later (drop at rest))
    ∙ ap (λ (xs : List RouteEntry). next ++ xs) (passed_placed e rest at c.requires.rising later c.in-Err.ensures.bound
    c.in-Err.ensures.position order)

pub returns-in-Err-clause-rising : goal.returns-in-Err-clause-rising
returns-in-Err-clause-rising c =
    subst (λ (xs : List RouteEntry). IsRising route_order itself xs) (sym c.split_at-in-Err.ensures.back)
    (IsRising-drop c.in-Err.at c.args.rest.now c.requires.rising)
