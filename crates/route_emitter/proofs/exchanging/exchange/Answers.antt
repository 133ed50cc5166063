use Rattle.std.proofs.Common.{◌≡◌, ◌<◌, true, false, cond, List, length, refl, sym, ap, subst, ◌∙◌}
use Rattle.std.specs.Prelude.{remove}
use Rattle.std.specs.declared.cmp.Ordering.TheVariants.{Equal}
use Rattle.std.specs.List.{HoldsAt}
use Rattle.row_tables.specs.Table.{put_row}
use Rattle.route_emitter.specs.Entries.{has, itself, route_order}
use Rattle.route_emitter.specs.Near.{toggle}
use Rattle.route_emitter.specs.declared.entry.RouteEntry.{RouteEntry}
use Rattle.route_emitter.proofs.Passing.{toggle-lacking, toggle_found}
use Rattle.route_emitter.proofs.exchanging.exchange.Goals as goal

pub returns-in-Ok-clause-items : goal.returns-in-Ok-clause-items
returns-in-Ok-clause-items c =
    let xs = c.args.entries.now.items in
    let gone = c.args.old.now in
    let new = c.args.new.now in
    let at = c.in-Ok.at in
    let taken =
    toggle_found gone xs at c.requires
    (subst (λ (ys : List RouteEntry). at < length ys) c.deref.ensures.value c.in-Ok.ensures.bound)
    (subst (λ (ys : List RouteEntry). HoldsAt (λ (y : RouteEntry). route_order y gone ≡ Equal) ys at)
    c.deref.ensures.value c.in-Ok.ensures.ok) in
    c.write_at.ensures.items
    ∙ elim c.write_at.result as (λ b. (b ≡ true → has (remove xs at) new ≡ false)
    → cond b (put_row route_order itself new (remove xs at)) xs ≡ cond b (toggle new (toggle gone xs)) xs) [
      | true ↦ λ apart. sym (toggle-lacking new (remove xs at) (apart refl)) ∙ ap (toggle new) taken
      | false ↦ λ apart. refl
    ] c.write_at.ensures.apart
