use Rattle.std.proofs.Common.{List, sym, subst}
use Rattle.auctioneer.specs.Refused.{AreRefused}
use Rattle.auctioneer.specs.declared.refused.Size.{Size}
use Rattle.auctioneer.proofs.Refusals.{best-from_none}
use Rattle.auctioneer.proofs.field.Field.best_of.Goals as goal

pub returns-then-is_refused : goal.returns-then-is_refused
returns-then-is_refused c =
    let f = c.args.self.now in
    best-from_none f.stands.items c.args.job.now c.requires.sound.rising
    (c.is_refused.ensures c.if-is_refused.true f.stands.items
    (subst (λ (zs : List Size). AreRefused f.stands.items zs) (sym c.as_slice.ensures.value) c.requires.refused))
