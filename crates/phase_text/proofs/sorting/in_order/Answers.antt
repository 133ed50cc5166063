use Rattle.std.proofs.Common.{◌≡◌, Bor, map, ap, ◌∙◌, rules}
use Rattle.std.specs.List.Sorted.{IsSortedBy, IsStableBy}
use Rattle.std.proofs.lemmas.Iterator.{YieldsList-from_slice}
use Rattle.std.proofs.lemmas.Iterator.Consumers.{map_from_collect}
use Rattle.std.proofs.lemmas.List.Sorted.{answers_always}
use Rattle.std.proofs.lemmas.Result.{IfOk-at_ok}
use Rattle.bbs_model.specs.declared.event.Event.{Event}
use Rattle.phase_text.specs.Sorting.{by_key}
use Rattle.phase_text.proofs.Orders.{by_key_is, events_rank, is_earlier}
use Rattle.phase_text.proofs.sorting.in_order.Goals as goal

pub returns : goal.returns
returns c =
    let xs = c.in_ok-sorted.sorted.items in
    let ys = c.sort_by.new.self.items in
    let collected : map (λ (e : Bor Event). e.now) xs ≡ c.args.events.now =
    IfOk-at_ok _ c.in_ok-sorted.was (map_from_collect _ c.collect.ensures.ran (YieldsList-from_slice c.args.events.now cc)) in
    let sorted : IsSortedBy is_earlier ys =
    c.in_ok-sort_by.ensures.sorted is_earlier events_rank (answers_always _ _ _ (λ f a r g h. search rules)) in
    let stable : IsStableBy is_earlier xs ys =
    c.sort_by.ensures.stable is_earlier events_rank (answers_always _ _ _ (λ f a r g h. search rules)) in
    by_key_is xs ys sorted stable ∙ ap by_key collected
