use Rattle.std.proofs.Common.{refl, arith}
use Rattle.bbs_journal.proofs.Choosing.{found_is}
use Rattle.bbs_journal.proofs.Peeking.{shows_back}
use Rattle.bbs_journal.proofs.find.read_sized.Goals as goal

pub returns-clause-shows : goal.returns-clause-shows
returns-clause-shows g c c' shows chosen sized =
    found_is c' _ _ _ _ chosen sized refl refl refl refl (c.in_ok-head.ensures.shows c'
    (shows_back _ _ c' c.in_ok-frames.ensures.does shows) (omega (arith, c.requires.fits, sized.len_is)))
    c.in_ok-head.ensures.len
    (c.in_ok-frames.ensures.shows c' shows sized.len_is)
