use Rattle.std.proofs.Common.{◌≡◌, sym, subst, ◌∙◌}
use Rattle.auctioneer.specs.Fields.{IsFieldOf}
use Rattle.auctioneer.specs.declared.field.Field.{Field}
use Rattle.auctioneer.proofs.field.Field.renew_zone.Goals.{then-eq, else-eq}
use Rattle.auctioneer.proofs.field.Field.renew_zone.Goals as goal

pub loop-other-preserved : goal.loop-other-preserved
loop-other-preserved c =
    elim c.if-eq.branch [
      | then-eq w ↦
          subst (λ (f : Field). IsFieldOf f × (f.stands.items ≡ c.args.self.now.stands.items)) (sym w.self-is)
          (w.renew_at.ensures.field, w.renew_at.ensures.stands ∙ c.loop-other.invariant.1)
      | else-eq w ↦
          subst (λ (f : Field). IsFieldOf f × (f.stands.items ≡ c.args.self.now.stands.items))
          (sym w.self-is) c.loop-other.invariant
    ]
