use Rattle.std.proofs.Common.{subst, sym, ◌∙◌}
use Rattle.converge_round.specs.Reps.{IsPlaceOf}
use Rattle.converge_round.proofs.rep_index.RepIndex.find.Goals as goal

pub returns : goal.returns
returns c names is =
    subst (IsPlaceOf names c.args.cell.now) (sym (c.copied.ensures ∙ c.get.ensures.value)) (is.finds c.args.cell.now)
