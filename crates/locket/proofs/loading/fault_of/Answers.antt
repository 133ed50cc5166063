use Rattle.std.proofs.Common.{subst}
use Rattle.bbs_journal.specs.NotLoaded.{HasLongHead, IsWhy, IsCutAt}
use Rattle.bbs_journal.specs.declared.not_loaded.NotLoaded.{NotLoaded}
use Rattle.bbs_journal.specs.declared.not_loaded.NotLoaded.TheVariants as why
use Rattle.locket.proofs.LongHeads.{long_refused}
use Rattle.locket.proofs.loading.fault_of.Goals as goal

pub returns-in-LongHead-clause-refuses : goal.returns-in-LongHead-clause-refuses
returns-in-LongHead-clause-refuses c c' is =
    let long = c.in-LongHead.long in
    let has : HasLongHead long c' = subst (λ (w : NotLoaded). IsWhy w c') c.in-LongHead.is is in
    let cut : IsCutAt 28 (why.LongHead long) = subst (IsCutAt 28) c.in-LongHead.is c.requires in
    long_refused long c' has cut.0
