use Rattle.std.proofs.Common.{◌≡◌, ◌+◌, ◌<◌, suc, drop, length, List, ap, subst, arith}
use Rattle.std.specs.declared.cmp.Ordering.TheVariants.{Less}
use Rattle.std.specs.List.{All}
use Rattle.route_emitter.specs.Entries.{route_order}
use Rattle.route_emitter.specs.Near.{IsBetween}
use Rattle.route_emitter.specs.declared.entry.RouteEntry.{RouteEntry}
use Rattle.route_emitter.proofs.Order.{IsKeyOrder-route_order}
use Rattle.route_emitter.proofs.Writing.{absent, written}
use Rattle.route_emitter.proofs.exchanging.write_at.Goals as goal

pub returns-clause-items : goal.returns-clause-items
returns-clause-items c =
    let entries = c.args.entries.now.items in
    let at = c.args.at in
    let e = c.args.entry.now in
    let next : at + 1 ≡ suc at = omega arith in
    let between : IsBetween e entries at = subst (λ (xs : List RouteEntry). IsBetween e xs at) c.deref.ensures.value
    (c.fits.ensures c.if-not-fits.false) in
    let within : at < length entries = omega (
      arith,
      c.requires.within,
      c.deref.ensures.len,
      ap length c.deref.ensures.value,
    ) in
    written route_order IsKeyOrder-route_order e entries at within between.above
    (subst (λ n. All (λ (y : RouteEntry). route_order e y ≡ Less) (drop n entries)) next between.below)

pub returns-clause-apart : goal.returns-clause-apart
returns-clause-apart c is =
    let entries = c.args.entries.now.items in
    let at = c.args.at in
    let e = c.args.entry.now in
    let next : at + 1 ≡ suc at = omega arith in
    let between : IsBetween e entries at = subst (λ (xs : List RouteEntry). IsBetween e xs at) c.deref.ensures.value
    (c.fits.ensures c.if-not-fits.false) in
    absent route_order IsKeyOrder-route_order e entries at between.above
    (subst (λ n. All (λ (y : RouteEntry). route_order e y ≡ Less) (drop n entries)) next between.below)
