use Rattle.std.proofs.Common.{List, ℕ, ◌++◌, subst}
use Rattle.bbs_journal.specs.NotLoaded.{HasLongHead, IsWhy}
use Rattle.bbs_journal.specs.declared.not_loaded.NotLoaded.{NotLoaded}
use Rattle.bbs_board.specs.Opening.{rows_in, Blames}
use Rattle.bbs_board.proofs.LongHeads.{long_refused}
use Rattle.bbs_board.proofs.long_head.fault_of.Goals as goal

pub returns-in-LongHead-clause-refuses : goal.returns-in-LongHead-clause-refuses
returns-in-LongHead-clause-refuses c c' why =
    let long = c.in-LongHead.long in
    let has : HasLongHead long c' = subst (λ (w : NotLoaded). IsWhy w c') c.in-LongHead.is why in
    long_refused long c' has c.fault_in.result
    (subst (λ (bytes : List ℕ). Blames c.fault_in.result (rows_in long.version long.area (bytes ++ has.rest)))
    c.deref.ensures.value (c.fault_in.ensures.blames has.rest))
