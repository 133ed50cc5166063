-- One rep of many comes to something of its own.
use Rattle.std.proofs.Common.{◌≡◌, ◌≢◌, ℕ, zero, suc, ◌<◌, List, [], ◌∷◌, length, get_or, set, ap, ◌∙◌, arith}
use Rattle.cell_rep.specs.declared.rep.CellRep.{CellRep}
use Rattle.converge_round.specs.Askings.{StandApart}
use Rattle.converge_round.specs.Reps.{names_of, StandsFor}
use Rattle.converge_round.proofs.Public.{name_there}

-- the names stay where the rep keeps its own
pub names_set : (reps : List CellRep) (at : ℕ) (r q : CellRep) → at < length reps → r ≡ get_or reps at r
    → q.cell ≡ r.cell → names_of (set reps at q) ≡ names_of reps
names_set [] at r q within is same = absurd (omega arith)
names_set (x ∷ reps) zero r q within is same = ap (λ (n : List ℕ). n ∷ names_of reps)
    (same ∙ ap (λ (y : CellRep). y.cell) is)
names_set (x ∷ reps) (suc k) r q within is same = ap (λ ns. x.cell ∷ ns) (names_set reps k r q (omega arith) is same)

-- where names differ, no other rep has the name of this one
pub others_named : (reps : List CellRep) (cell : List ℕ) (at : ℕ) (rep : CellRep) → StandApart (names_of reps)
    → StandsFor reps cell at rep
    → (k : ℕ) (q : CellRep) → k < length reps → q ≡ get_or reps k q → k ≢ at → q.cell ≢ cell
others_named reps cell at rep apart stands k q within is ne same =
    ne (apart k at cell (name_there reps cell k q (record { within = within; is = is; cell_is = same }))
    (name_there reps cell at rep stands))
