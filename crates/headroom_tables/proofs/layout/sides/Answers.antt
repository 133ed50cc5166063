use Rattle.std.proofs.Common.{◌∙◌}
use Rattle.std.proofs.lemmas.Result.{IfOk-weaker}
use Rattle.headroom_tables.proofs.Sides.{sides_same}
use Rattle.headroom_tables.proofs.layout.sides.Goals as goal

pub returns : goal.returns
returns c =
    IfOk-weaker c.heading_sides.result _ _ (λ sides same. same ∙ sides_same c.args.columns.now) c.heading_sides.ensures
