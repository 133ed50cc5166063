use Rattle.what_if.proofs.planning.plan_of.Goals as goal

pub plan_in-requires-clause-scene : goal.plan_in-requires-clause-scene
plan_in-requires-clause-scene c = record { before = c.in_ok-before.ensures; after = c.in_ok-after.ensures }
