use Rattle.bbs_journal.proofs.Unique.{are_one}
use Rattle.bbs_journal.proofs.laws.an_area_holds_one_list_of_payloads.Goals as goal

pub returns : goal.returns
returns c = are_one
