use Rattle.std.proofs.Common.{◌≤◌, ◌^◌, List, ◌++◌, ◌∷◌, [], length, subst, sym, ap, ◌∙◌}
use Rattle.std.proofs.lemmas.List.{length-map}
use Rattle.auctioneer.specs.declared.stand.Stand.{Stand}
use Rattle.cell_records.specs.declared.amounts.Amounts.{Amounts}
use Rattle.forecast_records.specs.declared.stock.ZoneThen.{ZoneThen}
use Rattle.site_answers.specs.Sums.{sums_of}
use Rattle.site_answers.specs.Zones.{stands_in}
use Rattle.site_answers.proofs.Adding.{few_left_amounts}
use Rattle.site_answers.proofs.zones.add_zone_then.Goals as goal

pub sums_of-free_left-requires : goal.sums_of-free_left-requires
sums_of-free_left-requires c =
    subst (λ (xs : List Amounts). length xs ≤ 2 ^ 32) (sym (c.deref-2.ensures.value ∙ c.in_ok-free.ensures))
    (few_left_amounts c.args.stands.now c.args.group.now c.requires.few)

pub returns : goal.returns
returns c =
    let own = stands_in c.args.stands.now c.args.group.now in
    c.in_ok-push.ensures.ok
    ∙ ap (λ (zone : ZoneThen). c.args.list.now ++ zone ∷ [])
    (λ i. record {
      of = c.in_ok-of.ensures i;
      cells_left = (c.number_of-cells_left.ensures ∙ ap (λ (xs : List Amounts). length xs)
          (c.deref.ensures.value ∙ c.in_ok-free.ensures) ∙ length-map own (λ (s : Stand). s.free)) i;
      free_left = (c.sums_of-free_left.ensures ∙ ap sums_of (c.deref-2.ensures.value ∙ c.in_ok-free.ensures)) i;
    })
