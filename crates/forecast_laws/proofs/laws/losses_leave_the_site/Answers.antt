use Rattle.forecast_laws.proofs.SiteLeft.{site_left}
use Rattle.forecast_laws.proofs.laws.losses_leave_the_site.Goals as goal

pub returns : goal.returns
returns c = λ site lost rows got stores old now valid taken those loss.
    site_left site lost rows got stores old now valid taken those loss
