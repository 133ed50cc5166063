use Rattle.std.proofs.Common.{◌≡◌, ◌+◌, T, sym, subst, ◌∙◌, arith}
use Rattle.std.specs.declared.cmp.Ordering.TheVariants.{Less}
use Rattle.row_tables.proofs.Public.{less_from_test}
use Rattle.route_emitter.specs.Entries.{route_order}
use Rattle.route_emitter.specs.declared.entry.RouteEntry.{RouteEntry}
use Rattle.route_emitter.proofs.Order.{IsKeyOrder-route_order}
use Rattle.route_emitter.proofs.Writing.{above-through}
use Rattle.route_emitter.proofs.exchanging.is_before.Goals as goal

pub returns : goal.returns
returns c h =
    let e = c.args.entry.now in
    let x = c.index-entries-at.result in
    let less : route_order e x ≡ Less = sym c.cmp.ensures ∙ less_from_test c.cmp.result
    (subst T (sym (sym c.is_lt.ensures ∙ h)) tt) in
    above-through route_order IsKeyOrder-route_order e c.args.entries.now (c.args.at + 1) x c.requires.rising
    (omega arith)
    (subst (λ (y : RouteEntry). route_order e y ≡ Less) c.index-entries-at.is less)
