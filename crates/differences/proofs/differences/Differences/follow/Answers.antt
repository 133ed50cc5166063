use Rattle.std.proofs.Common.{ap, sym}
use Rattle.std.specs.Option.{option_copied}
use Rattle.differences.proofs.Transitions.{follows_few, follows_once, follows_twice}
use Rattle.differences.proofs.differences.Differences.follow.Goals as goal

pub take_in-requires-clause-few : goal.take_in-requires-clause-few
take_in-requires-clause-few g c = follows_few c.self.inside.kept _ (sym c.self.view_is) _ _ _ c.requires.follows

pub take_in-requires-in-Some-clause-few : goal.take_in-requires-in-Some-clause-few
take_in-requires-in-Some-clause-few g c = follows_few c.self.inside.kept _ (sym c.self.view_is) _ _ _ c.requires.follows

pub returns-in-None-clause-stands : goal.returns-in-None-clause-stands
returns-in-None-clause-stands g c =
    follows_once c.self.inside.kept c.args.self.now (sym c.self.view_is) c.args.first.now _ _
    (ap option_copied c.in-None.is) c.requires.follows _ c.take_in.ensures.renews

pub returns-in-Some-clause-stands : goal.returns-in-Some-clause-stands
returns-in-Some-clause-stands g c =
    follows_twice c.self.inside.kept c.args.self.now (sym c.self.view_is) c.args.first.now c.in-Some.second.now _ _
    (ap option_copied c.in-Some.is) c.requires.follows _ _ c.take_in-in-Some.ensures.renews
    c.take_in-in-Some-2.ensures.renews
