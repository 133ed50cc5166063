use Rattle.bbs_journal.proofs.Peeking.{if_ok_both}
use Rattle.bbs_journal.proofs.Kept.{kept_found}
use Rattle.bbs_journal.proofs.loading.read_disk.Goals as goal

pub returns-clause-kept : goal.returns-clause-kept
returns-clause-kept g c =
    if_ok_both c.find.result _ _ _ (λ f shows counts. kept_found _ _ _ f c.in_ok-settle.ensures.does c.find.ensures.does
    counts shows) c.find.ensures.shows c.find.ensures.counts
