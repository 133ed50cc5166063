use Rattle.std.proofs.Common.{sym, subst}
use Rattle.differences.specs.Noted.{Keeping, Noted, noted_of, transitions_in}
use Rattle.differences.specs.Standing.{StandsFor}
use Rattle.differences.proofs.Spares.{stands_with}
use Rattle.differences.proofs.differences.Differences.reserve.Goals as goal

pub returns-clause-stands : goal.returns-clause-stands
returns-clause-stands c rows stands =
    let kept : Keeping = c.self.inside.kept in
    subst (λ (k : Keeping). StandsFor (noted_of k) rows) (sym c.reserve.ensures.stays)
    (stands_with (noted_of kept) (transitions_in c.reserve.new.self.room) rows
    (subst (λ (d : Noted). StandsFor d rows) (sym c.self.view_is) stands))
