-- The reps of a round, found by name and by place.
use Rattle.std.proofs.Common.{◌≡◌, ℕ, zero, suc, Bool, true, false, cond, List, [], ◌∷◌, set, Option, Some, None, refl, sym, ap, subst, ◌∙◌, arith, slice_get}
use Rattle.std.specs.List.{Contains}
use Rattle.std.proofs.lemmas.Bool.Decides.{Decides-eqb}
use Rattle.std.proofs.lemmas.Cmp.{nat_list_eq_equiv}
use Rattle.std.proofs.lemmas.Slice.Eq.{slice_eq-Decides}
use Rattle.auctioneer.specs.Stands.{same_name}
use Rattle.cell_rep.specs.declared.rep.CellRep.{CellRep}
use Rattle.converge_laws.proofs.Public.{inside_map}
use Rattle.converge_round.specs.Askings.{StandApart}
use Rattle.converge_round.specs.Reps.{HasNoRep, StandsFor, names_of}
use Rattle.converge_round.proofs.Public.{name_there, rep_there}
use Rattle.convergence.proofs.Public.{find-passes, find-some}
use Rattle.run_function.specs.Reps.{rep_named, with_rep}

pub one_name : (a b : List ℕ) → same_name a b ≡ true → a ≡ b
one_name a b e = (slice_eq-Decides Decides-eqb a b (same_name a b) refl).0 e

pub name_itself : (a b : List ℕ) → a ≡ b → same_name a b ≡ true
name_itself a b e = ap (λ (n : List ℕ). same_name n b) e ∙ nat_list_eq_equiv.refl b

abbrev is_of : List ℕ → CellRep → Bool
is_of cell r = same_name r.cell cell

-- a rep that stands in the list stands for its cell
pub stands_inside : (reps : List CellRep) (cell : List ℕ) (rep : CellRep) (inside : Contains reps rep) → rep.cell ≡ cell
    → StandsFor reps cell inside.0 rep
stands_inside reps cell rep inside is = record { within = inside.1; is = sym inside.2; cell_is = is }

pub named_inside : (reps : List CellRep) (cell : List ℕ) (rep : CellRep) → rep_named reps cell ≡ Some rep
    → Contains reps rep
named_inside reps cell rep e = (find-passes (is_of cell) reps rep e).0

pub named_cell : (reps : List CellRep) (cell : List ℕ) (rep : CellRep) → rep_named reps cell ≡ Some rep
    → rep.cell ≡ cell
named_cell reps cell rep e = one_name rep.cell cell (find-passes (is_of cell) reps rep e).1

-- where names differ, the rep that stands for a cell is the one of its name
pub stands_named : (reps : List CellRep) (cell : List ℕ) (at : ℕ) (rep : CellRep) → StandApart (names_of reps)
    → StandsFor reps cell at rep → rep_named reps cell ≡ Some rep
stands_named reps cell at rep apart h =
    let found = find-some (is_of cell) reps rep (at, h.within, sym h.is) (name_itself rep.cell cell h.cell_is) in
    let inside = named_inside reps cell found.0 found.1 in
    let other = stands_inside reps cell found.0 inside (named_cell reps cell found.0 found.1) in
    let place = apart inside.0 at cell (name_there reps cell inside.0 found.0 other) (name_there reps cell at rep h) in
    found.1 ∙ sym (rep_there reps cell inside.0 found.0 other) ∙ ap
    (slice_get reps) place ∙ rep_there reps cell at rep h

pub none_named : (reps : List CellRep) (cell : List ℕ) → HasNoRep reps cell → rep_named reps cell ≡ None
none_named reps cell none =
    elim (rep_named reps cell) as (λ (o : Option CellRep). rep_named reps cell ≡ o → o ≡ None) [
      | None ↦ λ is. refl
      | (Some rep) ↦ λ is. absurd (none (subst (Contains (names_of reps)) (named_cell reps cell rep is)
          (inside_map (λ (r : CellRep). r.cell) reps rep (named_inside reps cell rep is))))
    ] refl

apart_rest : (n : List ℕ) (ns : List (List ℕ)) → StandApart (n ∷ ns) → StandApart ns
apart_rest n ns apart = λ i j name a b. omega (arith, apart (suc i) (suc j) name a b)

-- a rep in the place of one that stands for a cell is in the place of that cell's
pub set_named : (reps : List CellRep) (cell : List ℕ) (at : ℕ) (rep q : CellRep) → StandApart (names_of reps)
    → StandsFor reps cell at rep → set reps at q ≡ with_rep reps cell q
set_named [] cell at rep q apart h = let within = h.within in absurd (omega (arith, within))
set_named (r ∷ rs) cell zero rep q apart h =
    let same : same_name r.cell cell ≡ true = name_itself r.cell cell
    (sym (ap (λ (x : CellRep). x.cell) h.is) ∙ h.cell_is) in
    sym (ap (λ (b : Bool). cond b (q ∷ rs) (r ∷ with_rep rs cell q)) same)
set_named (r ∷ rs) cell (suc k) rep q apart h =
    let stands : StandsFor rs cell k rep = record { within = omega (arith, h.within); is = h.is; cell_is = h.cell_is }
    in
    let rest = set_named rs cell k rep q (apart_rest r.cell (names_of rs) apart) stands in
    elim (same_name r.cell cell) as (λ b. same_name r.cell cell ≡ b
    → set (r ∷ rs) (suc k) q ≡ cond b (q ∷ rs) (r ∷ with_rep rs cell q)) [
      | true ↦ λ e.
          let bad = apart 0 (suc k) cell (ap (λ (n : List ℕ). Some n) (one_name r.cell cell e))
          (name_there (r ∷ rs) cell (suc k) rep h) in
          absurd (omega (arith, bad))
      | false ↦ λ e. ap (λ (xs : List CellRep). r ∷ xs) rest
    ] refl
