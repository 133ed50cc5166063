-- A table is one whose rows may each follow those before them.
use Rattle.std.proofs.Common.{◌≡◌, ℕ, ◌+◌, ◌<◌, ◌≤◌, Bool, true, false, ◌&&◌, not, T, List, [], ◌∷◌, ◌++◌, map, length, nat_eq, Option, Some, None, sum_by, refl, ap, arith, length-append, IfSome}
use Rattle.std.specs.Prelude.{nat_lt, nat_le}
use Rattle.std.specs.declared.cmp.Ordering.{Ordering}
use Rattle.std.specs.declared.cmp.Ordering.TheVariants.{Less, Equal, Greater}
use Rattle.std.specs.FinMap.Entries.{below_all}
use Rattle.std.specs.List.{All, AllByRecursion, IsDistinct, list_any}
use Rattle.std.specs.Ordering.{is_lt}
use Rattle.std.proofs.lemmas.Bool.Decides.{nat_tests}
use Rattle.std.proofs.lemmas.List.Elements.{All-nil, All-cons}
use Rattle.std.proofs.lemmas.List.Sums.{sum_by-append, sum_by-cons, sum_by_push}
use Rattle.row_tables.specs.Table.{IsKeyOrder, keyed, IsRising}
use Rattle.row_tables.proofs.Public.{IsRising-push, first_of_both, second_of_both, below_rest, IsRising-tail}
use Rattle.bbs_model.specs.Limits.{most_wanted}
use Rattle.head_codec.specs.Head.{Keeps, is_fresh, is_above, has_room, may_follow}
use Rattle.head_codec.proofs.Pushes.{both_true, true_both, not_true, each-push, each-at, distinct-push, distinct-fresh}

pub less_from : (o : Ordering) → is_lt o ≡ true → o ≡ Less
less_from Less e = refl
less_from Equal e = absurd cc
less_from Greater e = absurd cc

is_true : (b : Bool) → T b → b ≡ true
is_true true h = refl
is_true false h = absurd h

-- the rows of a table, which keep what it asks
pub record IsTable {K X : Type 0} (R : K → K → Ordering) (key : X → K) (keeps : Keeps X) (next : ℕ)
    (rows : List X) : Type 0 where
  pub rising : IsRising R key rows
  pub few : length rows ≤ keeps.most
  pub each : AllByRecursion (λ x. keeps.suits next x ≡ true) rows
  pub wanted : sum_by keeps.wants rows ≤ most_wanted
  pub distinct : IfSome keeps.stamp (λ stamp. IsDistinct nat_eq (map stamp rows))

stamp-push : {X : Type 0} (stamp : Option (X → ℕ)) (rows : List X) (row : X)
    → IfSome stamp (λ f. IsDistinct nat_eq (map f rows)) → is_fresh stamp rows row ≡ true
    → IfSome stamp (λ f. IsDistinct nat_eq (map f (rows ++ row ∷ [])))
stamp-push None rows row h e = tt
stamp-push (Some f) rows row h e = distinct-push f rows row h (not_true (list_any (λ x. nat_eq (f x) (f row)) rows) e)

stamp-fresh : {X : Type 0} (stamp : Option (X → ℕ)) (rows : List X) (row : X) (rest : List X)
    → IfSome stamp (λ f. IsDistinct nat_eq (map f (rows ++ row ∷ rest)))
    → is_fresh stamp rows row ≡ true
stamp-fresh None rows row rest h = refl
stamp-fresh (Some f) rows row rest h = ap not (distinct-fresh f rows row rest h)

pub from_room : (n most sum : ℕ) → nat_lt n most && nat_le sum most_wanted ≡ true → (n < most) × (sum ≤ most_wanted)
from_room n most sum e =
    let parts = both_true (nat_lt n most) (nat_le sum most_wanted) e in
    (grind (arith, nat_tests, parts.0), grind (arith, nat_tests, parts.1))

to_room : (n most sum : ℕ) → n < most → sum ≤ most_wanted → nat_lt n most && nat_le sum most_wanted ≡ true
to_room n most sum lt le =
    let first : nat_lt n most ≡ true = grind (arith, nat_tests) in
    let second : nat_le sum most_wanted ≡ true = grind (arith, nat_tests) in
    true_both (nat_lt n most) (nat_le sum most_wanted) first second

module _ {K X : Type 0} (R : K → K → Ordering) (key : X → K) where
  all_below : (rows : List X) (row : X) → is_above R key rows row ≡ true → All (λ x. R (key x) (key row) ≡ Less) rows
  all_below [] row e = All-nil (λ x. R (key x) (key row) ≡ Less)
  all_below (x ∷ xs) row e =
      let parts = both_true (is_lt (R (key x) (key row))) (is_above R key xs row) e in
      All-cons (λ y. R (key y) (key row) ≡ Less) x xs (less_from (R (key x) (key row)) parts.0)
      (all_below xs row parts.1)

  below_at : (k : K) (xs : List X) (x : X) (rest : List X) → T (below_all R k (keyed R key (xs ++ x ∷ rest)))
      → T (is_lt (R k (key x)))
  below_at k [] x rest h = first_of_both (is_lt (R k (key x))) (below_all R k (keyed R key rest)) h
  below_at k (y ∷ ys) x rest h = below_at k ys x rest (second_of_both (is_lt (R k (key y)))
      (below_all R k (keyed R key (ys ++ x ∷ rest))) h)

  pub above-rising : (rows : List X) (row : X) (rest : List X) → IsRising R key (rows ++ row ∷ rest)
      → is_above R key rows row ≡ true
  above-rising [] row rest h = refl
  above-rising (x ∷ xs) row rest h =
      true_both (is_lt (R (key x) (key row))) (is_above R key xs row)
      (is_true (is_lt (R (key x) (key row))) (below_at (key x) xs row rest (below_rest R key x (xs ++ row ∷ rest) h)))
      (above-rising xs row rest (IsRising-tail R key x (xs ++ row ∷ rest) h))

  module _ (keeps : Keeps X) (next : ℕ) where
    -- a table with a row that may follow is one
    pub IsTable-push : IsKeyOrder R → (rows : List X) (row : X) → IsTable R key keeps next rows
        → may_follow R key keeps next rows row ≡ true → IsTable R key keeps next (rows ++ row ∷ [])
    unfolding may_follow
    IsTable-push o rows row t e =
        let halves = both_true ((is_above R key rows row && has_room keeps rows row) && keeps.suits next row)
        (is_fresh keeps.stamp rows row) e in
        let middle = both_true (is_above R key rows row && has_room keeps rows row) (keeps.suits next row) halves.0 in
        let front = both_true (is_above R key rows row) (has_room keeps rows row) middle.0 in
        let room = from_room (length rows) keeps.most (sum_by keeps.wants rows + keeps.wants row) front.1 in
        record {
          rising = IsRising-push R key o row rows t.rising (all_below rows row front.0);
          few = omega (arith, room.0, length-append rows (row ∷ []));
          each = each-push (λ x. keeps.suits next x ≡ true) rows row t.each middle.1;
          wanted = omega (arith, room.1, sum_by_push keeps.wants rows row);
          distinct = stamp-push keeps.stamp rows row t.distinct halves.1;
        }

    -- in a table each row may follow those before it
    pub may_follow-table : (rows : List X) (row : X) (rest : List X) → IsTable R key keeps next (rows ++ row ∷ rest)
        → may_follow R key keeps next rows row ≡ true
    unfolding may_follow
    may_follow-table rows row rest t =
        let few : length rows < keeps.most = omega (arith, t.few, length-append rows (row ∷ rest)) in
        let sum : sum_by keeps.wants rows + keeps.wants row ≤ most_wanted =
        omega (arith, t.wanted, sum_by-append keeps.wants rows (row ∷ rest), sum_by-cons keeps.wants row rest) in
        true_both ((is_above R key rows row && has_room keeps rows row) && keeps.suits next row)
        (is_fresh keeps.stamp rows row)
        (true_both (is_above R key rows row && has_room keeps rows row) (keeps.suits next row)
        (true_both (is_above R key rows row) (has_room keeps rows row) (above-rising rows row rest t.rising)
        (to_room (length rows) keeps.most (sum_by keeps.wants rows + keeps.wants row) few sum))
        (each-at (λ x. keeps.suits next x ≡ true) rows row rest t.each))
        (stamp-fresh keeps.stamp rows row rest t.distinct)
