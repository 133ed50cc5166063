use Rattle.round_tests.proofs.asking.steps.a_counter_is_made_for_a_call.Given as goal

abbrev pub ghosts-counted : goal.ghosts-counted
ghosts-counted g a = record { name = a.blank.name; parts = a.blank.parts }
