use Rattle.std.proofs.Common.{◌≡◌, Bool, true, false, Option, refl, sym, subst, ◌∙◌}
use Rattle.std.specs.Prelude.{not}
use Rattle.std.specs.Option.{IfSome}
use Rattle.cell_records.specs.declared.job_name.JobName.{JobName}
use Rattle.auctioneer.specs.Fields.{ServesOwn}
use Rattle.auctioneer.specs.Spots.{IsRanking}
use Rattle.auctioneer.specs.declared.field.Own.{Own}
use Rattle.auctioneer.proofs.Placings.{same_from_test}
use Rattle.auctioneer.proofs.field.Field.spots_for.Goals as goal

-- what is not so is false
from_not : (b : Bool) → not b ≡ false → b ≡ true
from_not true e = refl
from_not false e = sym e

pub returns-then-is_asked_by-clause-ranking : goal.returns-then-is_asked_by-clause-ranking
returns-then-is_asked_by-clause-ranking c =
    let f = c.args.self.now in
    let own = c.in-Some.own in
    let key = c.in-Lrp.key in
    let same : own.process ≡ key.process =
    same_from_test own.process key.process (from_not _ (sym c.ne.ensures ∙ c.if-ne.false)) in
    let serves : ServesOwn f.groups.items f.stands.items own =
    subst (λ (o : Option Own). IfSome o (ServesOwn f.groups.items f.stands.items)) c.in-Some.is c.requires.own in
    subst (λ (j : JobName). IsRanking j f.groups.items f.stands.items own.spots) (sym c.in-Lrp.is)
    (serves key (sym same))
