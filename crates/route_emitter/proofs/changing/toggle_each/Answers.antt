use Rattle.std.proofs.Common.{◌≡◌, ◌+◌, ◌∷◌, List, drop, sym, ap, subst, ◌∙◌, arith}
use Rattle.std.proofs.lemmas.List.{at_drop_more}
use Rattle.row_tables.specs.Table.{IsRising}
use Rattle.route_emitter.specs.Entries.{itself, route_order}
use Rattle.route_emitter.specs.Near.{toggle_each}
use Rattle.route_emitter.specs.declared.entry.RouteEntry.{RouteEntry}
use Rattle.route_emitter.proofs.Changes.{IsRising-toggle}
use Rattle.route_emitter.proofs.changing.toggle_each.Goals as goal

pub loop-entry-preserved : goal.loop-entry-preserved
loop-entry-preserved c =
    let changes = c.args.changes.now in
    let i = c.loop-entry.entry-index in
    let e = c.entry-item.result in
    let old = c.loop-entry.entries.items in
    let left = drop (i + 1) changes in
    let next : drop i changes ≡ e ∷ left =
    at_drop_more (λ (xs : List RouteEntry). xs) changes i e c.loop-entry-test.true ∙ ap (λ (x : RouteEntry). x ∷ left)
    (sym c.entry-item.is) in
    record {
      rest = ap (toggle_each left) c.toggle.ensures.items ∙ ap (λ (xs : List RouteEntry). toggle_each xs old)
          (sym next) ∙ c.loop-entry.invariant.rest;
      rising = subst (λ (xs : List RouteEntry). IsRising route_order itself xs) (sym c.toggle.ensures.items)
          (IsRising-toggle e old c.loop-entry.invariant.rising);
      room = omega arith;
    }
