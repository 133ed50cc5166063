use Rattle.std.proofs.Common.{◌++◌, ◌∷◌, [], ap, ◌∙◌}
use Rattle.cell_records.specs.declared.amounts.Amounts.{Amounts}
use Rattle.forecast_records.specs.declared.stock.TagRoom.{TagRoom}
use Rattle.site_answers.specs.Sums.{as_sums}
use Rattle.what_if.specs.Verdicts.{verdict_of}
use Rattle.site_answers.proofs.tags.add_tag_room.Goals as goal

pub verdict_of-verdict-requires-clause-stands : goal.verdict_of-verdict-requires-clause-stands
verdict_of-verdict-requires-clause-stands c = c.requires.before

pub verdict_of-verdict-requires-clause-jobs : goal.verdict_of-verdict-requires-clause-jobs
verdict_of-verdict-requires-clause-jobs c = c.requires.jobs

pub asked_in_all-asked-requires : goal.asked_in_all-asked-requires
asked_in_all-asked-requires c = c.requires.jobs

pub free_in_all-free-requires : goal.free_in_all-free-requires
free_in_all-free-requires c = c.requires.before

pub asked_in_all-unplaced-requires : goal.asked_in_all-unplaced-requires
asked_in_all-unplaced-requires c = c.requires.left

pub returns : goal.returns
returns c =
    let w = c.args.waiting.now in
    let tag = c.args.tag.now in
    c.in_ok-push.ensures.ok
    ∙ ap (λ (room : TagRoom). c.args.list.now ++ room ∷ [])
    (λ i. record {
      tag = tag;
      cells_left = c.cells_of_tag-cells_left.ensures i;
      jobs = ap (λ (a : Amounts). a.containers) c.asked_in_all-asked.ensures i;
      asked = ap as_sums c.asked_in_all-asked.ensures i;
      free = ap as_sums c.free_in_all-free.ensures i;
      unplaced = ap (λ (a : Amounts). a.containers) c.asked_in_all-unplaced.ensures i;
      unplaced_memory = ap (λ (a : Amounts). a.memory) c.asked_in_all-unplaced.ensures i;
      verdict = (c.verdict_of-verdict.ensures ∙ ap (verdict_of w.before.now w.jobs.now)
          (c.deref.ensures.value ∙ c.in_ok-counting.ensures)) i;
    })
