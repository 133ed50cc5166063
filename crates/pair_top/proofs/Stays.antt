-- Endings whose line is a constant.
use Rattle.std.proofs.Common.{ap}
use Rattle.program_ends.specs.Ending.{EndsAs}
use Rattle.program_ends.specs.declared.ending.Ending.{Ending}
use Rattle.program_ends.specs.declared.ending.Ending.TheVariants as ending
use Rattle.pair_top.specs.Endings.{StaysAs}
use Rattle.pair_top.specs.declared.ending.PairEnding.TheVariants.{Run}

-- one line of a board alone stays as it stays there
pub stays_run : (what how : Ending) → EndsAs what how → StaysAs (Run what) (Run how)
stays_run ending.Usage how is = ap Run is
stays_run ending.Read how is = ap Run is
stays_run what how is = tt
