-- The cells before the first job.
use Rattle.std.proofs.Common.{◌≡◌, ◌≢◌, ◌<◌, ◌≤◌, ◌^◌, Bool, true, false, cond, not, List, [], ◌∷◌, length, map, filter, refl, ap, subst, arith}
use Rattle.std.specs.List.{All, AllPairs}
use Rattle.std.specs.List.Sorted.{IsPermutation, IsSortedByKey}
use Rattle.std.proofs.lemmas.List.{length-map}
use Rattle.std.proofs.lemmas.List.Sorted.{All-permutation, length_permutation}
use Rattle.row_tables.proofs.Public.{table-from_sorted, IsRising-table}
use Rattle.diego_names.specs.Order.{name_order}
use Rattle.diego_names.proofs.Public.{IsKeyOrder-name_order}
use Rattle.cell_records.specs.declared.answer.Answer.{Answer}
use Rattle.cell_records.specs.declared.container.Container.{Container}
use Rattle.auctioneer.specs.Asked.{IsSoundAnswer, AreAnswers, IsSoundStand, AreStands}
use Rattle.auctioneer.specs.Stands.{has_ended, jobs_of, stand_of, stands_of}
use Rattle.auctioneer.specs.declared.stand.Stand.{Stand}

-- a filter adds nothing
shorter : {X : Type 0} (p : X → Bool) (xs : List X) → length (filter p xs) ≤ length xs
shorter p [] = omega arith
shorter p (x ∷ xs) =
    let rest = shorter p xs in
    elim (p x) as (λ b. length (cond b (x ∷ filter p xs) (filter p xs)) ≤ length (x ∷ xs))
    [ true ↦ omega arith | false ↦ omega arith ]

pub jobs_of-few : (cs : List Container) → length (jobs_of cs) ≤ length cs
jobs_of-few cs = simp length-map (shorter (λ (c : Container). not (has_ended c.state)) cs)

pub IsSound-stand_of : (a : Answer) → IsSoundAnswer a → a.totals.containers < 2 ^ 32 → IsSoundStand (stand_of a)
IsSound-stand_of a h small = record {
  within = h.within;
  few =
      omega (arith, jobs_of-few a.containers, h.containers, h.within.containers);
}

-- the names of the cells differ as those of the answers do
cells_differ : (answers : List Answer) → AllPairs (λ a b. a ≢ b) (map (λ (a : Answer). a.cell) answers)
    → AllPairs (λ a b. a ≢ b) (map (λ (s : Stand). s.cell) (map stand_of answers))
cells_differ answers h = subst (AllPairs (λ a b. a ≢ b)) (same_names answers) h
  where
    same_names : (xs : List Answer) → map (λ (a : Answer). a.cell) xs ≡ map (λ (s : Stand). s.cell) (map stand_of xs)
    same_names [] = refl
    same_names (x ∷ xs) = ap (λ ys. x.cell ∷ ys) (same_names xs)

pub stands_of-sorted : (answers : List Answer) (ss : List Stand) → AreAnswers answers
    → IsSortedByKey (λ s. s.cell) name_order ss → IsPermutation (map stand_of answers) ss → ss ≡ stands_of answers
stands_of-sorted answers ss h sorted moved =
    table-from_sorted name_order (λ s. s.cell) IsKeyOrder-name_order (map stand_of answers) ss
    (cells_differ answers h.differ) sorted moved

pub AreStands-sorted : (answers : List Answer) (ss : List Stand) → AreAnswers answers
    → IsSortedByKey (λ s. s.cell) name_order ss → IsPermutation (map stand_of answers) ss
    → All IsSoundStand (map stand_of answers) → AreStands ss
AreStands-sorted answers ss h sorted moved sound = record {
  few = rw (length_permutation (map stand_of answers) ss moved) (simp length-map h.few);
  rising = rw (stands_of-sorted answers ss h sorted moved)
      (IsRising-table name_order (λ s. s.cell) IsKeyOrder-name_order (map stand_of answers));
  each = All-permutation IsSoundStand (map stand_of answers) ss moved sound;
}
