use Rattle.std.proofs.Common.{Option, subst}
use Rattle.std.specs.Option.{IfSome}
use Rattle.auctioneer.specs.Fields.{ServesEach}
use Rattle.auctioneer.specs.declared.spots.Spots.{Spots}
use Rattle.auctioneer.proofs.field.Field.shared_for.Goals as goal

pub returns-then-is_asked_by-clause-ranking : goal.returns-then-is_asked_by-clause-ranking
returns-then-is_asked_by-clause-ranking c =
    let f = c.args.self.now in
    let serves : ServesEach f.groups.items f.stands.items c.in-Some.lean =
    subst (λ (o : Option Spots). IfSome o (ServesEach f.groups.items f.stands.items)) c.in-Some.is c.requires.lean in
    serves c.args.job.now.job

pub returns-else-is_asked_by-clause-ranking : goal.returns-else-is_asked_by-clause-ranking
returns-else-is_asked_by-clause-ranking c = c.requires.common c.args.job.now.job

pub returns-in-None-clause-ranking : goal.returns-in-None-clause-ranking
returns-in-None-clause-ranking c = c.requires.common c.args.job.now.job
