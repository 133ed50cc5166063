use Rattle.std.proofs.Common.{◌+◌, ◌*◌, sym, ap, subst, ◌∙◌}
use Rattle.cell_records.specs.declared.amounts.Amounts.{Amounts}
use Rattle.room_facts.specs.Rooms.{amounts_of, plus, AreUpTo}
use Rattle.room_facts.proofs.Added.{asked_more, asked_same, up_to_more, up_to_next}
use Rattle.room_facts.proofs.sums.asked_in_all.Goals.{then-is_for, else-is_for}
use Rattle.room_facts.proofs.sums.asked_in_all.Goals as goal

pub loop-job-preserved : goal.loop-job-preserved
loop-job-preserved c =
    let tag = c.args.tag.now in
    let jobs = c.args.jobs.now in
    let i = c.loop-job.job-index in
    let job = c.job-item.result in
    elim c.if-is_for.branch [
      | then-is_for w ↦ record {
        so_far =
            ap amounts_of w.asked-is ∙ w.plus-asked.ensures.value
            ∙ ap (λ (a : Amounts). plus a (record { memory = job.memory; disk = job.disk; containers = 1 }))
            c.loop-job.invariant.so_far
            ∙ sym (asked_more tag jobs i job c.loop-job-test.true c.job-item.is
            (sym c.is_for.ensures ∙ w.if-is_for.true));
        small =
            subst (AreUpTo (4294967295 * (i + 1))) (sym w.asked-is)
            (up_to_more i w.plus-asked.result (w.plus-asked.ensures.most (4294967295 * i) c.loop-job.invariant.small));
      }
      | else-is_for w ↦ record {
        so_far =
            ap amounts_of w.asked-is ∙ c.loop-job.invariant.so_far
            ∙ sym (asked_same tag jobs i job c.loop-job-test.true c.job-item.is
            (sym c.is_for.ensures ∙ w.if-is_for.false));
        small = subst (AreUpTo (4294967295 * (i + 1))) (sym w.asked-is)
            (up_to_next i c.loop-job.asked c.loop-job.invariant.small);
      }
    ]
