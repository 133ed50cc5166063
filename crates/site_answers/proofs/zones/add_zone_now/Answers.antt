use Rattle.std.proofs.Common.{◌++◌, ◌∷◌, [], ap, ◌∙◌}
use Rattle.forecast_records.specs.declared.stock.ZoneNow.{ZoneNow}
use Rattle.forecast_records.specs.declared.stock.ZoneTotals.{ZoneTotals}
use Rattle.site_answers.specs.Sums.{most_of}
use Rattle.site_answers.proofs.zones.add_zone_now.Goals as goal

pub returns : goal.returns
returns c =
    let g = c.args.group.now in
    let totals : ZoneTotals → ZoneTotals = λ t. record {
      zone = g.zone;
      tag = g.tag;
      cells = t.cells;
      total =
          t.total;
      free = t.free;
    } in
    c.in_ok-push.ensures.ok
    ∙ ap (λ (zone : ZoneNow). c.args.list.now ++ zone ∷ [])
    (λ i. record {
      of = totals (c.in_ok-own.ensures i);
      instances = c.instances_of_group-instances.ensures i;
      most_free = (c.most_of-most_free.ensures ∙ ap most_of (c.deref.ensures.value ∙ c.in_ok-free.ensures)) i;
    })
