use Rattle.bbs_journal.proofs.Newer.{newer_opened, newer_recovered}
use Rattle.bbs_journal.proofs.laws.of_two_open_areas_the_newer_is_opened.Goals as goal

pub returns : goal.returns
returns c = record { opened = newer_opened; recovered = newer_recovered }
