use Rattle.std.proofs.Common.{◌∙◌}
use Rattle.std.proofs.lemmas.Result.{IfOk-weaker}
use Rattle.headroom_tables.proofs.Joined.{joined_by}
use Rattle.headroom_tables.proofs.layout.joined.Goals as goal

pub returns : goal.returns
returns c =
    IfOk-weaker c.join.result _ _ (λ text same. same ∙ joined_by c.args.between.now c.args.parts.now) c.join.ensures.ok
