use Rattle.site_answers.proofs.losing.lose.Goals as goal

pub lose_in-requires-clause-scene : goal.lose_in-requires-clause-scene
lose_in-requires-clause-scene c = record { before = c.in_ok-before.ensures; after = c.in_ok-after.ensures }
