use Rattle.std.proofs.Common.{◌+◌, ◌*◌, sym, ap, subst, ◌∙◌}
use Rattle.cell_records.specs.declared.amounts.Amounts.{Amounts}
use Rattle.room_facts.specs.Rooms.{amounts_of, plus, AreUpTo}
use Rattle.room_facts.proofs.Added.{free_more, free_same, up_to_more, up_to_next}
use Rattle.room_facts.proofs.sums.free_in_all.Goals.{then-has_tag, else-has_tag}
use Rattle.room_facts.proofs.sums.free_in_all.Goals as goal

pub loop-stand-preserved : goal.loop-stand-preserved
loop-stand-preserved c =
    let tag = c.args.tag.now in
    let stands = c.args.stands.now in
    let i = c.loop-stand.stand-index in
    let stand = c.stand-item.result in
    elim c.if-has_tag.branch [
      | then-has_tag w ↦ record {
        so_far =
            ap amounts_of w.free-is ∙ w.plus-free.ensures.value
            ∙ ap (λ (a : Amounts). plus a stand.free) c.loop-stand.invariant.so_far
            ∙ sym (free_more tag stands i stand c.loop-stand-test.true c.stand-item.is
            (sym c.has_tag.ensures ∙ w.if-has_tag.true));
        small =
            subst (AreUpTo (4294967295 * (i + 1))) (sym w.free-is)
            (up_to_more i w.plus-free.result (w.plus-free.ensures.most (4294967295 * i) c.loop-stand.invariant.small));
      }
      | else-has_tag w ↦ record {
        so_far =
            ap amounts_of w.free-is ∙ c.loop-stand.invariant.so_far
            ∙ sym (free_same tag stands i stand c.loop-stand-test.true c.stand-item.is
            (sym c.has_tag.ensures ∙ w.if-has_tag.false));
        small = subst (AreUpTo (4294967295 * (i + 1))) (sym w.free-is)
            (up_to_next i c.loop-stand.free c.loop-stand.invariant.small);
      }
    ]
