use Rattle.std.proofs.Common.{◌≡◌, ◌<◌, ◌≤◌, List, length, Err, subst, ◌∙◌}
use Rattle.std.specs.declared.cmp.Ordering.TheVariants.{Equal}
use Rattle.std.specs.List.{HoldsAt}
use Rattle.std.specs.List.Sorted.{IsBinarySearchResult}
use Rattle.route_emitter.specs.Entries.{route_order}
use Rattle.route_emitter.specs.declared.entry.RouteEntry.{RouteEntry}
use Rattle.route_emitter.proofs.Passing.{toggle_found, toggle_placed}
use Rattle.route_emitter.proofs.changing.toggle.Goals as goal

pub returns-in-Ok-clause-items : goal.returns-in-Ok-clause-items
returns-in-Ok-clause-items c =
    let e = c.args.entry.now in
    let at = c.in-Ok.at in
    c.remove-gone.ensures.items
    ∙ toggle_found e c.args.entries.now.items at c.requires.rising
    (subst (λ (xs : List RouteEntry). at < length xs) c.deref.ensures.value c.in-Ok.ensures.bound)
    (subst (λ (xs : List RouteEntry). HoldsAt (λ (y : RouteEntry). route_order y e ≡ Equal) xs at) c.deref.ensures.value
    c.in-Ok.ensures.ok)

pub returns-in-Err-clause-items : goal.returns-in-Err-clause-items
returns-in-Err-clause-items c =
    let e = c.args.entry.now in
    let at = c.in-Err.at in
    c.insert.ensures.items
    ∙ toggle_placed e c.args.entries.now.items at c.requires.rising
    (subst (λ (xs : List RouteEntry). at ≤ length xs) c.deref.ensures.value c.in-Err.ensures.bound)
    (subst (λ (xs : List RouteEntry). IsBinarySearchResult (λ (y : RouteEntry). route_order y e) xs (Err at))
    c.deref.ensures.value c.in-Err.ensures.position)
