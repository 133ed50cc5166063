-- The reps of a round, each found by the name of its cell.
use Rattle.std.specs.Prelude.{ℕ, List, [], ◌∷◌, find, Option, if◌then◌else◌}
use Rattle.std.specs.Option.{option_and_then}
use Rattle.auctioneer.specs.Stands.{same_name}
use Rattle.cell_records.specs.declared.answer.Answer.{Answer}
use Rattle.cell_rep.specs.Reps.{answer_of}
use Rattle.cell_rep.specs.declared.rep.CellRep.{CellRep}
use Rattle.converge_round.specs.Askings.{answer_under}

-- the rep of that cell, if there is one
abbrev pub rep_named : List CellRep → List ℕ → Option CellRep
rep_named reps cell = find (λ r. same_name r.cell cell) reps

-- the reps with this one in the place of that cell's
abbrev pub with_rep : List CellRep → List ℕ → CellRep → List CellRep
with_rep [] cell rep = []
with_rep (r ∷ rs) cell rep = if same_name r.cell cell then rep ∷ rs else r ∷ with_rep rs cell rep

-- what that cell answers under an epoch, if its rep does
abbrev pub rep_answer : List CellRep → List ℕ → ℕ → Option Answer
rep_answer reps cell epoch = answer_under epoch (option_and_then answer_of (rep_named reps cell))
