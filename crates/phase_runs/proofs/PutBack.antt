-- The reps of the cells, back in the actors after a round.
use Rattle.std.proofs.Common.{◌≡◌, ℕ, zero, suc, ◌<◌, List, [], ◌∷◌, ◌++◌, length, map, take, drop, get_or, Some, refl, ap, sym, subst, ◌∙◌, arith, take_all}
use Rattle.std.specs.List.{slice_get}
use Rattle.std.proofs.lemmas.List.{take-append-le}
use Rattle.std.proofs.lemmas.Option.{slice_get-get_or, slice_get_within}
use Rattle.cell_rep.specs.declared.rep.CellRep.{CellRep}
use Rattle.converge_round.specs.Reps.{KeepReps}
use Rattle.phase_actors.specs.Runs.{IsOneActor}
use Rattle.phase_actors.specs.declared.actor_state.ActorState.{ActorState}
use Rattle.phase_actors.specs.declared.actor_state.ActorState.TheVariants.{Client, Cell}
use Rattle.phase_actors.proofs.Public.{one_same, one_then}
use Rattle.phase_runs.specs.Actors.{AreSameActors}
use Rattle.phase_runs.specs.Reps.{bare, reps_of, with_reps}
use Rattle.phase_runs.proofs.Places.{one_of}

-- it makes no difference that they were away
pub put_back : (xs : List ActorState) (rs : List CellRep) → KeepReps (reps_of xs) rs
    → with_reps (map bare xs) rs ≡ with_reps xs rs
put_back [] rs kept = refl
put_back (Client name ∷ xs) rs kept = ap (λ (l : List ActorState). Client name ∷ l) (put_back xs rs kept)
put_back (Cell rep ∷ xs) [] kept = absurd kept
put_back (Cell rep ∷ xs) (r ∷ rs) kept = ap (λ (l : List ActorState). Cell r ∷ l) (put_back xs rs kept.1)

same_number : (xs ys : List CellRep) → KeepReps xs ys → length ys ≡ length xs
same_number [] [] kept = refl
same_number [] (y ∷ ys) kept = absurd kept
same_number (x ∷ xs) [] kept = absurd kept
same_number (x ∷ xs) (y ∷ ys) kept = ap suc (same_number xs ys kept.1)

-- the reps that were taken, lent as a slice and put back are those of the actors now
pub put_after : (olds bared news : List ActorState) (took lent after : List CellRep) (len : ℕ)
    → (took ≡ reps_of olds) × (bared ≡ map bare olds) → lent ≡ took → len ≡ length took → KeepReps lent after
    → news ≡ with_reps bared (take len (after ++ drop (length after) took))
    → (news ≡ with_reps olds after) × KeepReps (reps_of olds) after
put_after olds bared news took lent after len taken lent_is len_is kept put = (
  put ∙ ap (with_reps bared) all_of ∙ ap (λ (l : List ActorState). with_reps l after) taken.1 ∙ put_back olds after
      kept_now,
  kept_now,
)
  where
    kept_now : KeepReps (reps_of olds) after
    kept_now = subst (λ (l : List CellRep). KeepReps l after) (lent_is ∙ taken.0) kept

    enough : len ≡ length after
    enough = len_is ∙ sym (ap length lent_is) ∙ sym (same_number lent after kept)

    all_of : take len (after ++ drop (length after) took) ≡ after
    all_of = take-append-le len after (drop (length after) took) (omega (arith, enough)) ∙ take_all len after
        (omega (arith, enough))

as_many : (xs : List ActorState) (rs : List CellRep) → length (with_reps xs rs) ≡ length xs
as_many [] rs = refl
as_many (Client name ∷ xs) rs = ap suc (as_many xs rs)
as_many (Cell rep ∷ xs) [] = ap suc (as_many xs [])
as_many (Cell rep ∷ xs) (r ∷ rs) = ap suc (as_many xs rs)

between : (x y a a' : ActorState) → IsOneActor x y → Some x ≡ Some a → Some y ≡ Some a' → IsOneActor a a'
between x y a a' one p q =
    subst (λ b. IsOneActor b a') (one_of (Some x) x a refl p) (subst (IsOneActor x) (one_of (Some y) y a' refl q) one)

one_put : (xs : List ActorState) (rs : List CellRep) → KeepReps (reps_of xs) rs
    → (k : ℕ) (a a' : ActorState) → slice_get xs k ≡ Some a → slice_get (with_reps xs rs) k ≡ Some a' → IsOneActor a a'
one_put [] rs kept k a a' old new = cc (old)
one_put (Client name ∷ xs) rs kept zero a a' old new = between (Client name) (Client name) a a' refl old new
one_put (Client name ∷ xs) rs kept (suc k) a a' old new = one_put xs rs kept k a a' old new
one_put (Cell rep ∷ xs) [] kept k a a' old new = absurd kept
one_put (Cell rep ∷ xs) (r ∷ rs) kept zero a a' old new = between (Cell rep) (Cell r) a a' kept.0.cell old new
one_put (Cell rep ∷ xs) (r ∷ rs) kept (suc k) a a' old new = one_put xs rs kept.1 k a a' old new

-- each is the client or the cell that it was
pub same_put : (xs : List ActorState) (rs : List CellRep) → KeepReps (reps_of xs) rs
    → AreSameActors xs (with_reps xs rs)
same_put xs rs kept = record { length_is = as_many xs rs; one = one_put xs rs kept }

pub same_as : (xs ys : List ActorState) → ys ≡ xs → AreSameActors xs ys
same_as xs ys is = record {
  length_is = ap length is;
  one = λ k a a' old new.
      subst (IsOneActor a) (one_of (slice_get xs k) a a' old
      (sym (ap (λ (l : List ActorState). slice_get l k) is) ∙ new))
      (one_same a);
}

pub same_then : (xs ys zs : List ActorState) → AreSameActors xs ys → AreSameActors ys zs → AreSameActors xs zs
same_then xs ys zs first second = record {
  length_is = second.length_is ∙ first.length_is;
  one = λ k a c old new.
      let within : k < length ys = omega (arith, slice_get_within xs k a old, first.length_is) in
      let middle : slice_get ys k ≡ Some (get_or ys k a) = slice_get-get_or ys k a within in
      one_then a (get_or ys k a) c (first.one k a (get_or ys k a) old middle)
      (second.one k (get_or ys k a) c middle new);
}
