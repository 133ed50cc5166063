use Rattle.difference_tests.proofs.indexes.listed_by.Given as goal

abbrev pub ghosts-listed_with : goal.ghosts-listed_with
ghosts-listed_with a = record { name = a.blank.name; parts = a.blank.parts }
