use Rattle.std.proofs.Common.{◌∙◌}
use Rattle.work_causes.specs.Causes.{place_causes}
use Rattle.differences.proofs.following.causes_in.Goals as goal

pub returns : goal.returns
returns g c =
    c.if_any.ensures ∙ c.place_causes.ensures
    ∙ (λ i. place_causes c.args.place.now.1 (c.requires i) (c.actual-ordinary.ensures i) (c.actual-own.ensures i))
