use Rattle.std.proofs.Common.{List, filter, sym, ap, subst, ◌∙◌}
use Rattle.std.specs.BTreeSet.{contains}
use Rattle.diego_names.specs.Key.{key_order}
use Rattle.lrp_records.specs.declared.actual.Actual.{Actual}
use Rattle.route_emitter.specs.Near.{Covers}
use Rattle.route_emitter.specs.Routes.{has_route, is_running, routes_in}
use Rattle.route_emitter.proofs.Following.{is-routing, routes-running}
use Rattle.route_emitter.proofs.emitter.Emitter.of.Goals as goal

pub invariant_of-result : goal.invariant_of-result
invariant_of-result c =
    let desired = c.in_ok-kept.kept.desired in
    let running = c.in_ok-kept.ensures.running ∙ ap (filter is_running) c.items-2.ensures in
    record {
      table =
          c.in_ok-table.ensures ∙ ap (routes_in desired) c.items-4.ensures
          ∙ sym (routes-running desired _) ∙ ap (routes_in desired) (sym running);
      covers =
          subst (λ (rs : List Actual). Covers (contains key_order c.in_ok-instances.instances.set) rs)
          (ap (filter is_running) c.items-3.ensures ∙ sym running) c.in_ok-instances.ensures;
    }

pub returns : goal.returns
returns c =
    let desired = c.in_ok-kept.kept.desired in
    let running = c.in_ok-kept.ensures.running ∙ ap (filter is_running) c.items-2.ensures in
    is-routing c.args.rows.now _ c.requires.desired.rising c.requires.actual.rising
    (c.in_ok-kept.ensures.desired ∙ ap (filter has_route) c.items.ensures)
    running
    (c.in_ok-table.ensures ∙ ap (routes_in desired) c.items-4.ensures ∙ sym (routes-running desired _) ∙ ap
    (routes_in desired) (sym running))
