-- The names of the cells among the actors differ.
use Rattle.std.proofs.Common.{◌≡◌, ◌≢◌, ℕ, zero, suc, Bool, true, false, List, [], ◌∷◌, Some, refl, sym, ap, subst, ◌∙◌, arith}
use Rattle.std.specs.Prelude.{AllPairs}
use Rattle.std.specs.List.{Contains, slice_get}
use Rattle.converge_laws.proofs.Public.{inside_first, inside_rest}
use Rattle.converge_round.specs.Askings.{StandApart}
use Rattle.converge_round.specs.Reps.{names_of}
use Rattle.scenario_lines.specs.declared.actor.Actor.{Actor}
use Rattle.phase_actors.specs.Runs.{IsOneActor}
use Rattle.phase_actors.specs.declared.actor_state.ActorState.{ActorState}
use Rattle.phase_actors.specs.declared.actor_state.ActorState.TheVariants.{Client, Cell}
use Rattle.phase_runs.specs.Actors.{AreSameActors}
use Rattle.phase_runs.specs.Reps.{reps_of}
use Rattle.scenario_player.specs.Actors.{starting_actors}

-- the names of the cells among actors
abbrev pub cell_names : List ActorState → List (List ℕ)
cell_names actors = names_of (reps_of actors)

one_name : (a b : ActorState) (olds news : List ActorState) → IsOneActor a b → cell_names news ≡ cell_names olds
    → cell_names (b ∷ news) ≡ cell_names (a ∷ olds)
one_name (Client n) (Client m) olds news is rest = rest
one_name (Client n) (Cell q) olds news is rest = absurd is
one_name (Cell r) (Client m) olds news is rest = absurd is
one_name (Cell r) (Cell q) olds news is rest = cc (is, rest)

-- they stay where each actor is the client or the cell that it was
pub names_same : (olds news : List ActorState) → AreSameActors olds news → cell_names news ≡ cell_names olds
names_same [] [] same = refl
names_same [] (b ∷ news) same = absurd (omega (arith, same.length_is))
names_same (a ∷ olds) [] same = absurd (omega (arith, same.length_is))
names_same (a ∷ olds) (b ∷ news) same =
    one_name a b olds news (same.one 0 a b refl refl) (names_same olds news (record {
      length_is = omega (arith, same.length_is);
      one = λ k x y p q. same.one (suc k) x y p q;
    }))

-- the cell of a name
abbrev of_cell : List ℕ → Actor
of_cell name = record { cell = true; name = name }

-- a name among them is that of a cell
one_in : (cell : Bool) (n : List ℕ) (rest : List Actor) (j : ℕ) (name : List ℕ)
    → ((i : ℕ) → slice_get (cell_names (starting_actors rest)) i ≡ Some name → Contains rest (of_cell name))
    → slice_get (cell_names (starting_actors (record { cell = cell; name = n } ∷ rest))) j ≡ Some name
    → Contains (record { cell = cell; name = n } ∷ rest) (of_cell name)
one_in false n rest j name more is = inside_rest (of_cell name) (record { cell = false; name = n }) rest (more j is)
one_in true n rest zero name more is =
    let same : n ≡ name = cc (is) in
    subst (λ (m : List ℕ). Contains (of_cell n ∷ rest) (of_cell m)) same (inside_first (of_cell n) rest)
one_in true n rest (suc j) name more is = inside_rest (of_cell name) (of_cell n) rest (more j is)

named_cell : (actors : List Actor) (j : ℕ) (name : List ℕ)
    → slice_get (cell_names (starting_actors actors)) j ≡ Some name
    → Contains actors (of_cell name)
named_cell [] j name is = cc (is)
named_cell (a ∷ rest) j name is = one_in a.cell a.name rest j name (λ i. named_cell rest i name) is

one_apart : (cell : Bool) (n : List ℕ) (rest : List Actor) → StandApart (cell_names (starting_actors rest))
    → (cell ≡ true → Contains rest (of_cell n) → ⊥) → StandApart
    (cell_names (starting_actors (record { cell = cell; name = n } ∷ rest)))
one_apart false n rest more new i j name p q = more i j name p q
one_apart true n rest more new zero zero name p q = refl
one_apart true n rest more new zero (suc j) name p q =
    let same : name ≡ n = cc (p) in
    absurd (new refl (subst (λ (m : List ℕ). Contains rest (of_cell m)) same (named_cell rest j name q)))
one_apart true n rest more new (suc i) zero name p q =
    let same : name ≡ n = cc (q) in
    absurd (new refl (subst (λ (m : List ℕ). Contains rest (of_cell m)) same (named_cell rest i name p)))
one_apart true n rest more new (suc i) (suc j) name p q = ap suc (more i j name p q)

-- those of a scenario stand apart
pub names_apart : (actors : List Actor) → AllPairs (λ a b. a ≢ b) actors
    → StandApart (cell_names (starting_actors actors))
names_apart [] pairs = λ i j name p q. cc (p)
names_apart (a ∷ rest) pairs =
    one_apart a.cell a.name rest (names_apart rest (λ i j d before within.
    pairs (suc i) (suc j) d (omega (arith, before)) (omega (arith, within))))
    (λ is inside.
    let same : a ≡ of_cell a.name = ap (λ (b : Bool). record { cell = b; name = a.name }) is in
    pairs 0 (suc inside.0) (of_cell a.name) (omega arith) (omega (arith, inside.1)) (same ∙ sym inside.2))
