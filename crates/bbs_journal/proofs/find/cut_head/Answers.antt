use Rattle.std.proofs.Common.{refl, arith}
use Rattle.bbs_journal.proofs.Choosing.{long_is}
use Rattle.bbs_journal.proofs.find.cut_head.Goals as goal

pub returns-in-Ok-clause-why : goal.returns-in-Ok-clause-why
returns-in-Ok-clause-why g c c' shows chosen sized =
    long_is c' _ _ _ _ _ chosen sized c.requires.fits c.requires.longer refl refl
    (c.in-Ok.ensures.shows c' shows (omega (arith, c.requires.fits, c.requires.longer, sized.len_is)))
