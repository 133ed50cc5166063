use Rattle.std.proofs.Common.{◌∙◌, ap, subst}
use Rattle.bbs_board.specs.View.{View}
use Rattle.pair_top.specs.Endings.{EndsAs}
use Rattle.pair_top.specs.declared.ending.PairEnding.{PairEnding}
use Rattle.pair_top.proofs.Openings.{start_cause}
use Rattle.pair_top.proofs.opening.start.Goals as goal

pub returns-in-Err-clause-refused : goal.returns-in-Err-clause-refused
returns-in-Err-clause-refused g c = (
  c.disk_of.ensures ∙ c.close.ensures.fields.0 ∙ ap (λ (b : View g.row.D.Denot). b.disk) c.in-Err.ensures.back.0,
  c.disk_of-in-Err.ensures ∙ c.close-in-Err.ensures.fields.0
      ∙ ap (λ (b : View g.row.E.Denot). b.disk) c.in-Err.ensures.back.1,
  start_cause c.args.primary c.args.standby c.in-Err.refusal c.ended.result c.in-Err.ensures.apart
      (subst (λ (wanted : PairEnding). EndsAs wanted c.ended.result) c.start_ending.ensures c.ended.ensures.ending),
  c.ended.ensures.prints.0,
  c.ended.ensures.prints.1,
)
