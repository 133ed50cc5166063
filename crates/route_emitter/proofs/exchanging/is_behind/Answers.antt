use Rattle.std.proofs.Common.{◌≡◌, ◌+◌, take, T, List, sym, ap, subst, ◌∙◌, arith}
use Rattle.std.specs.declared.cmp.Ordering.TheVariants.{Less}
use Rattle.std.specs.List.{All}
use Rattle.std.specs.Ordering.{is_lt}
use Rattle.row_tables.proofs.Public.{less_from_test}
use Rattle.route_emitter.specs.Entries.{route_order}
use Rattle.route_emitter.specs.declared.entry.RouteEntry.{RouteEntry}
use Rattle.route_emitter.proofs.Order.{IsKeyOrder-route_order}
use Rattle.route_emitter.proofs.Writing.{below-through}
use Rattle.route_emitter.proofs.exchanging.is_behind.Goals as goal

pub returns-in-Some : goal.returns-in-Some
returns-in-Some c h =
    let entries = c.args.entries.now in
    let e = c.args.entry.now in
    let before = c.in-Some.before in
    let x = c.index-entries-before.result in
    let next : before + 1 ≡ c.args.at = omega arith in
    let less : route_order x e ≡ Less = sym c.cmp.ensures ∙ less_from_test c.cmp.result
    (subst T (sym (sym c.is_lt.ensures ∙ h)) tt) in
    subst (λ n. All (λ (y : RouteEntry). route_order y e ≡ Less) (take n entries)) next
    (below-through route_order IsKeyOrder-route_order e entries before x c.requires.rising (omega arith)
    (subst (λ (y : RouteEntry). route_order y e ≡ Less) c.index-entries-before.is less))
