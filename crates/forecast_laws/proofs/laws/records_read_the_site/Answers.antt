use Rattle.forecast_laws.proofs.SiteRead.{site_read}
use Rattle.forecast_laws.proofs.laws.records_read_the_site.Goals as goal

pub returns : goal.returns
returns c = site_read c.rounds_auction_what_is_left.ensures
