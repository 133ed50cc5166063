use Rattle.board_port.proofs.uncounted.uncounted_work.Given as goal

abbrev pub ghosts-counted_work : goal.ghosts-counted_work
ghosts-counted_work g a = record { name = a.blank.name; parts = a.blank.parts }
