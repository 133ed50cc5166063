use Rattle.std.proofs.Common.{sym, subst}
use Rattle.std.proofs.lemmas.List.Elements.{All-push}
use Rattle.auctioneer.specs.Refused.{FitsNowhere, AreRefused}
use Rattle.auctioneer.proofs.refused.add.Goals as goal

pub returns : goal.returns
returns c = λ stands h one.
    subst (AreRefused stands) (sym c.in_ok-push.ensures.items)
    (All-push (FitsNowhere stands) c.args.refused.now.items
    (record { tag = c.args.tag; memory = c.args.memory; disk = c.args.disk }) h one)

pub returns-in_err-push : goal.returns-in_err-push
returns-in_err-push c = λ stands h one. subst (AreRefused stands) (sym c.in_err-push.ensures.items) h
