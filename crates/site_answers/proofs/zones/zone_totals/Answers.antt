use Rattle.std.proofs.Common.{◌≤◌, ◌^◌, List, length, subst, sym, ap, ◌∙◌}
use Rattle.std.proofs.lemmas.List.{length-map}
use Rattle.cell_records.specs.declared.amounts.Amounts.{Amounts}
use Rattle.cell_records.specs.declared.answer.Answer.{Answer}
use Rattle.site_answers.specs.Sums.{sums_of}
use Rattle.site_answers.specs.Zones.{cells_in}
use Rattle.site_answers.proofs.Adding.{few_amounts}
use Rattle.site_answers.proofs.zones.zone_totals.Goals as goal

pub sums_of-total-requires : goal.sums_of-total-requires
sums_of-total-requires c =
    subst (λ (xs : List Amounts). length xs ≤ 2 ^ 32) (sym (c.deref-2.ensures.value ∙ c.in_ok-totals.ensures))
    (few_amounts (λ (a : Answer). a.totals) c.args.site.now c.args.group.now c.requires)

pub sums_of-left-requires : goal.sums_of-left-requires
sums_of-left-requires c =
    subst (λ (xs : List Amounts). length xs ≤ 2 ^ 32) (sym (c.deref-3.ensures.value ∙ c.in_ok-free.ensures))
    (few_amounts (λ (a : Answer). a.free) c.args.site.now c.args.group.now c.requires)

pub returns : goal.returns
returns c =
    let g = c.args.group.now in
    let own = cells_in c.args.site.now g in
    λ i. record {
      zone = g.zone;
      tag = g.tag;
      cells = (c.number_of-cells.ensures ∙ ap (λ (xs : List Amounts). length xs)
          (c.deref.ensures.value ∙ c.in_ok-totals.ensures) ∙ length-map own (λ (a : Answer). a.totals)) i;
      total = (c.sums_of-total.ensures ∙ ap sums_of (c.deref-2.ensures.value ∙ c.in_ok-totals.ensures)) i;
      free = (c.sums_of-left.ensures ∙ ap sums_of (c.deref-3.ensures.value ∙ c.in_ok-free.ensures)) i;
    }
