use Rattle.what_if.proofs.Names.{name_from_test}
use Rattle.site_answers.proofs.dark.times_of.Goals as goal

pub counts_of-requires : goal.counts_of-requires
counts_of-requires c = name_from_test
