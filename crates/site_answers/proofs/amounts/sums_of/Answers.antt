use Rattle.std.proofs.Common.{◌*◌, arith}
use Rattle.std.proofs.lemmas.Grind.{common_steps}
use Rattle.room_facts.proofs.Added.{up_to_more}
use Rattle.site_answers.proofs.amounts.sums_of.Goals as goal

pub loop-more-preserved : goal.loop-more-preserved
loop-more-preserved c =
    let i = c.loop-more.more-index in
    record {
      so_far = grind (arith, common_steps);
      small = up_to_more i c.with_more-sums.result (c.with_more-sums.ensures.most
          (4294967295 * i) c.loop-more.invariant.small);
    }
