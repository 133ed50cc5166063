use Rattle.bbs_journal.proofs.Peeking.{shows_back, if_ok_weaker, if_err_weaker}
use Rattle.bbs_journal.proofs.find.find.Goals as goal

pub returns-clause-shows : goal.returns-clause-shows
returns-clause-shows g c =
    if_ok_weaker c.read_area.result _ _
    (λ f holds c' shows. holds c' shows (c.in_ok-chosen.ensures.shows c'
    (shows_back _ _ c' c.read_area.ensures.does shows))) c.read_area.ensures.shows

pub returns-clause-why : goal.returns-clause-why
returns-clause-why g c =
    if_err_weaker c.read_area.result _ _
    (λ e fails c' shows. fails c' shows (c.in_ok-chosen.ensures.shows c'
    (shows_back _ _ c' c.read_area.ensures.does shows))) c.read_area.ensures.why
