use Rattle.std.proofs.Common.{sym, subst}
use Rattle.pair_top.specs.Endings.{StaysAs}
use Rattle.pair_top.specs.declared.ending.PairEnding.{PairEnding}
use Rattle.pair_top.specs.declared.ending.PairEnding.TheVariants.{Run}
use Rattle.pair_top.proofs.Stays.{stays_run}
use Rattle.pair_top.proofs.lines.ended.Goals as goal

pub returns-in-Run-clause-stays : goal.returns-in-Run-clause-stays
returns-in-Run-clause-stays g c =
    subst (λ (what : PairEnding). StaysAs what (Run c.ended_before.result)) (sym c.in-Run.is)
    (stays_run c.in-Run.ending c.ended_before.result c.ended_before.ensures.ending)
