use Rattle.std.proofs.Common.{List, sym, ap, subst, ◌∙◌}
use Rattle.std.specs.BTreeSet.{contains}
use Rattle.diego_names.specs.Key.{key_order}
use Rattle.diego_names.specs.declared.key.Key.{Key}
use Rattle.lrp_records.specs.declared.actual.Actual.{Actual}
use Rattle.route_emitter.specs.Keeping.{desired_after, running_after}
use Rattle.route_emitter.specs.Near.{Covers, KeepsOthers}
use Rattle.route_emitter.specs.Routes.{routes_in}
use Rattle.route_emitter.specs.Routing.{Routing}
use Rattle.route_emitter.specs.declared.entry.RouteEntry.{RouteEntry}
use Rattle.route_emitter.proofs.Covering.{covers-after, followed-more}
use Rattle.route_emitter.proofs.Following.{follows-events}
use Rattle.route_emitter.proofs.Near.{others-kept}
use Rattle.route_emitter.proofs.emitter.Emitter.take.Goals as goal

pub invariant_of-self : goal.invariant_of-self
invariant_of-self c =
    followed-more _ _ _ _ _ _ _ _ c.make_ready.ensures.desired c.make_ready.ensures.running c.make_ready.ensures.table
    c.make_ready.ensures.more c.self.invariant

pub invariant_of-self-in_err-plan : goal.invariant_of-self-in_err-plan
invariant_of-self-in_err-plan c =
    followed-more _ _ _ _ _ _ _ _ c.make_ready.ensures.desired c.make_ready.ensures.running c.make_ready.ensures.table
    c.make_ready.ensures.more c.self.invariant

pub renew-change-requires-clause-others : goal.renew-change-requires-clause-others
renew-change-requires-clause-others c =
    let es = c.args.events.now in
    let ds = c.make_ready.new.kept.desired in
    let rs = c.make_ready.new.kept.running in
    let entries = c.make_ready.new.table.items in
    let indexed = contains key_order c.make_ready.new.instances.set in
    let named = c.in_ok-named.named.items in
    let after = routes_in (desired_after es ds) (running_after es rs) in
    let followed =
    followed-more (contains key_order c.self.inside.instances.set) indexed c.self.inside.kept.desired ds
    c.self.inside.kept.running rs c.self.inside.table.items entries
    c.make_ready.ensures.desired c.make_ready.ensures.running c.make_ready.ensures.table c.make_ready.ensures.more
    c.self.invariant in
    subst (λ (ks : List Key). KeepsOthers ks entries after) (sym c.as_slice-2.ensures.value)
    (subst (λ (xs : List RouteEntry). KeepsOthers named xs after) (sym followed.table)
    (others-kept indexed named es ds rs c.in_ok-named.ensures.named followed.covers c.count-rows.ensures.rising))

pub drop_idle-requires : goal.drop_idle-requires
drop_idle-requires c =
    let es = c.args.events.now in
    let ds = c.make_ready.new.kept.desired in
    let rs = c.make_ready.new.kept.running in
    let indexed = contains key_order c.make_ready.new.instances.set in
    let followed =
    followed-more (contains key_order c.self.inside.instances.set) indexed c.self.inside.kept.desired ds
    c.self.inside.kept.running rs c.self.inside.table.items
    c.make_ready.new.table.items c.make_ready.ensures.desired c.make_ready.ensures.running c.make_ready.ensures.table
    c.make_ready.ensures.more c.self.invariant in
    subst (λ (xs : List Actual). Covers indexed xs) (sym c.renew-change.ensures.running)
    (covers-after indexed es rs c.in_ok-named.ensures.cover followed.covers)

pub returns-clause-follows : goal.returns-clause-follows
returns-clause-follows c rows h =
    follows-events c.args.events.now rows c.args.self.now _
    (c.renew-change.ensures.desired ∙ ap (desired_after c.args.events.now)
    (c.make_ready.ensures.desired ∙ ap (λ (r : Routing). r.desired) c.self.view_is))
    (c.renew-change.ensures.running ∙ ap (running_after c.args.events.now)
    (c.make_ready.ensures.running ∙ ap (λ (r : Routing). r.running) c.self.view_is))
    c.renew-change.ensures.table
    h
