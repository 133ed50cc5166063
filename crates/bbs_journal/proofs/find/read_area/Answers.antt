use Rattle.std.proofs.Common.{◌∙◌}
use Rattle.bbs_journal.specs.Opening.{headed}
use Rattle.bbs_journal.proofs.Opening.{fails_is, headed_err}
use Rattle.bbs_journal.proofs.Choosing.{size_is}
use Rattle.bbs_journal.proofs.Peeking.{shows_back}
use Rattle.bbs_journal.proofs.find.read_area.Goals as goal

pub returns-in-Err-clause-why : goal.returns-in-Err-clause-why
returns-in-Err-clause-why g c c' shows chosen =
    fails_is _ (headed c') (headed_err c' _ _ chosen.active
    (size_is c' _ _ _ _ chosen c.bytes.ensures (c.in_ok-len.ensures.shows c' shows) c.check_head.ensures.value ∙
    c.in-Err.is))

pub returns-in_ok-read_sized-in-Ok-clause-shows : goal.returns-in_ok-read_sized-in-Ok-clause-shows
returns-in_ok-read_sized-in-Ok-clause-shows g c c' shows chosen =
    let len_is = c.in_ok-len.ensures.shows c' (shows_back _ _ c' c.read_sized.ensures.does shows) in
    c.in_ok-read_sized-in-Ok.ensures.shows c' shows chosen
    (record {
      len_is = len_is;
      size_is = size_is c' _ _ _ _ chosen c.bytes.ensures len_is c.check_head.ensures.value ∙ c.in-Ok.is;
    })
